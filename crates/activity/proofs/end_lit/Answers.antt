use Rattle.activity.proofs.Tracing.{end_inside, end_few, end_root}
use borrow.Author.Rules.{rules}
use Rattle.activity.proofs.end_lit.Goals as goal

pub flag_lit-requires : goal.flag_lit-requires
flag_lit-requires c = record { m_in_bounds = search rules; q_lt_m = search end_inside; e_bound = search end_few }

pub returns-in-Root : goal.returns-in-Root
returns-in-Root c = search end_root
