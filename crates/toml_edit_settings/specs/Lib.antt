-- Cited by public contracts.
pub mod RuleWords
pub mod Patterns
pub mod Said
pub mod SaidView
pub mod SettingsText
pub mod SettingsView
