-- What a text says as settings, and why it has none.
use Rattle.std.specs.Prelude.{◌≡◌, ℕ, suc, List, None, Some}
use Rattle.toml_edit.specs.Documents.{IsReading, IsRefusal}
use Rattle.toml_edit_error.specs.declared.toml_error.ParseFault.{ParseFault}
use Rattle.toml_edit_error.specs.declared.toml_error.ParseFault.TheVariants as parse
use Rattle.toml_edit_model.specs.Excerpt.{position_in}
use Rattle.toml_edit_model.specs.Lists.{slot_list}
use Rattle.toml_edit_model.specs.Text.{Text}
use Rattle.toml_edit_model.specs.Tree.{Tree}
use Rattle.toml_edit_settings.specs.Said.{Said, first_mistake}
use Rattle.toml_edit_settings.specs.SaidView.{sayings}
use Rattle.toml_edit_settings.specs.SettingsText.{said_in}
use Rattle.toml_edit_settings.specs.declared.mistake.Mistake.{Mistake}
use Rattle.toml_edit_settings.specs.declared.settings.Settings.{Settings}
use Rattle.toml_edit_settings.specs.declared.settings.SettingsFault.{SettingsFault}
use Rattle.toml_edit_settings.specs.declared.settings.SettingsFault.TheVariants.{Memory, Toml, Setting}

abbrev pub said_by : Settings → List Said
said_by s = sayings s.said

-- ---- a text

-- the text is TOML, and its keys say this
pub record Says (t : Text) (said : List Said) : Type 0 where
  pub tree : Tree
  pub reading : IsReading t tree
  pub keys : said ≡ said_in (slot_list tree.slots)

-- and none of them is wrong
abbrev pub AreSettings : Text → List Said → Type 0
AreSettings t said = Says t said × (first_mistake said ≡ None)

-- this is wrong, and begins first
pub record IsMistaken (t : Text) (line column : ℕ) (why : Mistake) : Type 0 where
  pub keys : List Said
  pub says : Says t keys
  pub at : ℕ
  pub first : first_mistake keys ≡ Some (at, why)
  pub on_line : line ≡ suc (position_in t at).line
  pub at_column : column ≡ suc (position_in t at).column

abbrev pub fault_of : ParseFault → SettingsFault
fault_of (parse.Toml e) = Toml e
fault_of parse.Memory = Memory

abbrev pub IsFault : Text → SettingsFault → Type 0
IsFault t Memory = Unit {0}
IsFault t (Toml e) = IsRefusal t e
IsFault t (Setting line column why) = IsMistaken t line column why
