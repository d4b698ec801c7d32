-- What comes of files that are found.
use Rattle.std.proofs.Common.{◌≡◌, ◌∙◌, ℕ, Bool, List, [], length, map, ap, refl, suc, ◌∷◌, sym, subst, inl, string_bytes}
use Rattle.std.specs.Prelude.{Option}
use Rattle.std.specs.declared.alloc.Global.{Global}
use Rattle.std.specs.declared.string.String.{String}
use Rattle.file_replace.specs.Events.{Text, Event}
use Rattle.toml_edit_files.specs.Found.{Counts, DoesFound, count_text}
use Rattle.toml_edit_files.specs.Notes.{note_text}
use Rattle.toml_edit_files.specs.Outcomes.{DoesAll}
use Rattle.toml_edit_files.specs.Walks.{FindsEach, FindsMore, FindsNamed}
use Rattle.toml_edit_files.specs.declared.told.Told.{Told}

length-map : {X Y : Type 0} (f : X → Y) (xs : List X) → length (map f xs) ≡ length xs
length-map f [] = refl
length-map f (x ∷ xs) = ap suc (length-map f xs)

module _ (Does : Text → Told → Option (List Event) → Option (List Event) → Option Text → Type 0) (word : Text) (names : List Text)
    (old now new : Option (List Event)) (left : Option Text) (items : List (String Global)) (walked : Bool) (told all : Told) (u : ℕ) where
  pub found-done : FindsMore (FindsEach FindsNamed names) walked old now [] (map string_bytes items) → (fs : List (String Global)) → fs ≡ items
      → DoesAll Does (map string_bytes fs) now new left told u → Counts walked (note_text (count_text (length items) u word)) told all
      → DoesFound Does word names old new left all
  found-done (es, files, each, is, asked, same) fs value does counts =
      inl (
        es,
        files,
        told,
        u,
        each,
        subst (λ (a : Option (List Event)). DoesAll Does files a new left told u) asked
            (subst (λ (ns : List Text). DoesAll Does ns now new left told u) (ap (map string_bytes) value ∙ same) does),
        subst (λ (b : Bool). Counts b (note_text (count_text (length files) u word)) told all) is
            (subst (λ (n : ℕ). Counts walked (note_text (count_text n u word)) told all) (sym (length-map string_bytes items) ∙ ap length same) counts),
      )
