-- Keys alone.
use Rattle.std.specs.Prelude.{ℕ, Some}
use Rattle.toml_edit_model.specs.Text.{Text}
use Rattle.toml_edit_model.specs.Tree.{Decor, span, Key}

abbrev pub name_of : Key → Text
name_of k = k.name

-- the key of this name that is spelled by the bytes from this one up to that one, with these decors
abbrev pub spanned_key : Text → ℕ → ℕ → Decor → Decor → Key
spanned_key k start end leaf dotted =
    record { name = k; spelling = Some (span start end); leaf = leaf; dotted = dotted }
