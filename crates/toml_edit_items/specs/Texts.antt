-- That a text is given, or put behind another one.
use Rattle.std.specs.Prelude.{◌≡◌, ◌++◌, IfOk, OnOk, MatchOption, Option, Result, String, option_map, string_bytes}
use Rattle.std.specs.Global.{Global}
use Rattle.toml_edit_model.specs.Text.{Text}

module _ {E : Type 0} where
  -- one of this property
  abbrev pub GivesText : (Text → Type 0) → Result (String Global) E → Type 0
  GivesText Is r = IfOk r (λ s. Is (string_bytes s))

  -- there is none for this reason, or one of this property
  abbrev pub MayGive : Type 0 → (Text → Type 0) → Result (Option (String Global)) E → Type 0
  MayGive Why Is r = IfOk r (λ text. MatchOption text Why (λ s. Is (string_bytes s)))

  -- this one, if there is one
  abbrev pub GivesLine : Option Text → Result (Option (String Global)) E → Type 0
  GivesLine line r = IfOk r (λ text. option_map string_bytes text ≡ line)

  module _ {A : Type 0} where
    abbrev pub Puts : Text → String Global → String Global → Result A E → Type 0
    Puts more old new r = OnOk r (string_bytes new ≡ string_bytes old ++ more)
