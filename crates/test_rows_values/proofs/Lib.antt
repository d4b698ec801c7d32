pub mod LikeLaws
