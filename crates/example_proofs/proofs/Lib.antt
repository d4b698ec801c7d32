-- Laws that proofs of the programs share.
pub mod KeyLaws
