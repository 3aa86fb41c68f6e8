use Rattle.rules.specs.Tables.{netlist_in}
use Rattle.aig.proofs.Filling.{finish_operands, fill_listed, fill_unlisted}
use Rattle.aig.proofs.fill_tables.Goals as goal

pub finish-fits-requires-clause-operands : goal.finish-fits-requires-clause-operands
finish-fits-requires-clause-operands c =
    let a = c.args in
    finish_operands (netlist_in a.n) a.rooms a.work.now a.drivers.now a.outputs.now a.dffs.now a.rams.now a.literals.now a.fanout_starts.now a.fanouts.now c.requires
    _ _ _ _ _ _ c.in_ok-tally.ensures

pub returns-then-fits : goal.returns-then-fits
returns-then-fits c =
    let a = c.args in
    fill_listed (netlist_in a.n) a.rooms a.work.now a.drivers.now a.outputs.now a.dffs.now a.rams.now a.literals.now a.fanout_starts.now a.fanouts.now c.requires
    _ _ _ _ _ _ c.in_ok-tally.ensures _ _ _ _ c.finish-fits.ensures.fanned c.finish-fits.ensures.literals_after c.make_graph.auto.outputs c.make_graph.auto.dffs c.make_graph.auto.rams
    c.if-fits.true

pub returns-else-fits : goal.returns-else-fits
returns-else-fits c =
    let a = c.args in
    fill_unlisted (netlist_in a.n) a.rooms a.work.now a.drivers.now a.outputs.now a.dffs.now a.rams.now a.literals.now a.fanout_starts.now a.fanouts.now c.requires
    _ _ _ _ _ _ c.in_ok-tally.ensures _ _ _ _ c.finish-fits.ensures.fanned c.finish-fits.ensures.literals_after c.make_graph.auto.outputs c.make_graph.auto.dffs c.make_graph.auto.rams
    c.if-fits.false
