pub mod Few
pub mod Told
pub mod ToldBuild
pub mod ToldEnds
pub mod ToldGraph
pub mod ToldStage
