pub mod NotedCounts
pub mod TreeLaws
