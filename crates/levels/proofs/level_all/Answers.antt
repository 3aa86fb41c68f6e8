use Rattle.levels.proofs.Ranked.{levels_begin, levels_known, levels_raising, levels_go_on, levels_end}
use Rattle.levels.proofs.level_all.Goals as goal

pub loop-i-init : goal.loop-i-init
loop-i-init c = search levels_begin

pub level_pin-requires : goal.level_pin-requires
level_pin-requires c = record { known = search levels_known; raising = search levels_raising }

pub loop-i-preserved : goal.loop-i-preserved
loop-i-preserved c = search levels_go_on

pub returns : goal.returns
returns c = search levels_end
