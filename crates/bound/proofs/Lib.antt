pub mod Candidates
pub mod CutCounts
pub mod LastGroups
pub mod Progressing
pub mod RangeEnds
pub mod Turns
