use Rattle.capi.proofs.ToldBuild.{built_zeroed, built_made, built_refused}
use Rattle.capi.proofs.build.tell_built.Goals as goal

pub tell_made-requires : goal.tell_made-requires
tell_made-requires c = search built_zeroed

pub returns-in-Ok : goal.returns-in-Ok
returns-in-Ok c = search built_made

pub returns-in-Err : goal.returns-in-Err
returns-in-Err c = search built_refused
