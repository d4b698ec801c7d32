pub mod FactSets
pub mod ValueFacts
pub mod PathFacts
pub mod WalkFacts
pub mod PrintFacts
pub mod ReparseLaws
