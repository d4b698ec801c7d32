-- The law of default spellings: each is read back.
use Rattle.toml_edit_model.specs.Text.{Text}
use Rattle.toml_edit_model.specs.Scalars.{Scalar}
use Rattle.toml_edit_model.specs.Spelling.{SpellsKey, SpellsInRange}
use Rattle.toml_edit_model.specs.DefaultSpelling.{default_spelling, key_spelling}
use Rattle.toml_edit_model.specs.Tree.{IsRealScalar}

-- The default spelling of a scalar that its type holds spells it, in range, and that of a key
-- spells the key.
abbrev pub DefaultSpellings : Type 0
DefaultSpellings =
    ((s : Scalar) → IsRealScalar s → SpellsInRange s (default_spelling s))
    × ((k : Text) → SpellsKey k (key_spelling k))
