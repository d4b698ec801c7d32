-- Worked words of edits, and words that are none.
use Rattle.std.specs.Prelude.{◌≡◌, refl, [], ◌∷◌, codes, String, Vec, string_bytes}
use Rattle.std.proofs.Common.{inl, lit<}
use Rattle.std.specs.declared.alloc.Global.{Global}
use Rattle.toml_edit_model.specs.Text.{Text}
use Rattle.toml_edit_model.specs.Tree.{Key}
use Rattle.toml_edit_model.specs.Version.{v1_1}
use Rattle.toml_edit_edits.specs.Said.{SaysEdit, StopsEdit}
use Rattle.toml_edit_edits.specs.declared.edit.Edit.TheVariants as edits
use Rattle.toml_edit_edits.specs.declared.fault.WordFault.TheVariants as faults
use Rattle.toml_edit_edits.specs.declared.edit.ValueVerb.TheVariants.{Set}
use Rattle.toml_edit_edits.specs.declared.edit.Verb.TheVariants.{Value}

-- the empty path is that of the root
root_is_sorted : (path : Vec Key Global) → path.items ≡ [] → SaysEdit v1_1 (codes "sort" ∷ [] ∷ []) (edits.Sort path)
root_is_sorted path root = ([], refl, inl (refl, root))

-- a sort takes one word
sort_of_two : (path : Vec Key Global) (x y : Text) → SaysEdit v1_1 (codes "sort" ∷ x ∷ y ∷ []) (edits.Sort path) → ⊥
sort_of_two path x y said = let e = said.1 in absurd cc

-- a comment is put behind a space
spaced_comment : (path : Vec Key Global) (text : String Global) → path.items ≡ [] → string_bytes text ≡ codes " x"
    → SaysEdit v1_1 (codes "comment" ∷ [] ∷ codes "x" ∷ []) (edits.Comment path text)
spaced_comment path text root is = ([], codes "x", refl, inl (refl, root), is)

-- two words follow `set`
set_without_words : StopsEdit v1_1 (codes "set" ∷ []) (faults.Operands (Value Set))
set_without_words = (Value Set, [], refl, (refl, lit< tt))
