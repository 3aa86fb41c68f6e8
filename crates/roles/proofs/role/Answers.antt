use Rattle.roles.proofs.Roles.{role_out, role_in}
use Rattle.roles.proofs.Fitting.{laid, cell_inside, net_inside}
use borrow.Author.Rules.{rules}
use Rattle.roles.proofs.role.Goals as goal

pub out_role-requires : goal.out_role-requires
out_role-requires c = record { laid = search laid; starts_len = search rules; cell_in_bounds = search cell_inside; p_in_bounds = search rules }

pub returns-then-direction-eq1 : goal.returns-then-direction-eq1
returns-then-direction-eq1 c = search role_out

pub returns : goal.returns
returns c = search role_in

pub bounds-n-net : goal.bounds-n-net
bounds-n-net c = search net_inside
