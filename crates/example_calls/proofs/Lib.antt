-- Laws that proofs of the guide share.
pub mod AddLaws
pub mod EditLaws
pub mod ExchangeLaws
pub mod FaultLaws
pub mod KeptLaws
pub mod LineLaws
pub mod NormalLaws
pub mod RemovalLaws
pub mod SlotLaws
pub mod ViewLaws
pub mod PrintLaws
