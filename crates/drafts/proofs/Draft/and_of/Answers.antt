use mathlib.Core.Path.{refl}
use Rattle.drafts.proofs.Steps.{count_needs, and_made}
use Rattle.drafts.proofs.Draft.and_of.Goals as goal

pub gate_counted-self-requires : goal.gate_counted-self-requires
gate_counted-self-requires c =
    let d = c.args.self.now in
    let p = count_needs d.at d.work.now d.drivers.now d.tally c.args.a.word c.args.b.word c.requires _ _ _ c.in_ok-step.ensures in
    record { pins_bound = p.0; gates_le_pins = p.1.0; pins_le_pins = p.1.1.0; pins_bound_2 = p.1.1.1 }

pub returns : goal.returns
returns c = record { loans = record { drivers = refl; work = refl; place = refl }; extends = search (and_made, c.in_ok-step.ensures) }
