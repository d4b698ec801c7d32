pub mod HunkLaws
pub mod LineLaws
pub mod ScriptLaws
