-- Worked calls that rename and move a key at a path, by computation.
use Rattle.std.specs.Prelude.{◌≡◌, refl, true, [], ◌∷◌, codes}
use Rattle.std.specs.Fmt.{digits}
use Rattle.toml_edit_model.specs.Print.{print}
use Rattle.toml_edit_model.specs.Tree.{nothing, no_slots, slot, Tree}
use Rattle.toml_edit_model.specs.examples.Parts.{plain_key, all_true}
use Rattle.toml_edit_laws.specs.EditLists.{replace, remove}
use Rattle.toml_edit_laws.specs.examples.Edits.{three_lines}
use Rattle.toml_edit_edit_laws.specs.Commands.{no_such_path, taken}
use Rattle.toml_edit_edit_laws.specs.KeyCalls.{move_at, rename_at}
use Rattle.toml_edit_edit_laws.specs.PathEdits.{renames, moves, IsEditAt, paths_of_call, with_last}
use Rattle.toml_edit_edit_laws.specs.examples.Commands.{ka, kb, kc, kx, ky, kt, refuses, writes, tree, inline_one, one_in_array}

-- ---- names

-- the line keeps its place and its comments, and a value its frame
renamed : all_true (
    writes (codes "# one\na = 1\n\n# two\nt = 2 # x\nc = 3\n") (rename_at (kb ∷ []) kt (tree three_lines))
    ∷ writes (codes "a = { y = 1 } # c\n") (rename_at (ka ∷ kb ∷ []) ky (tree inline_one))
    ∷ writes (codes "[[a]]\ny = 1\n") (rename_at (ka ∷ codes "0" ∷ kx ∷ []) ky (tree one_in_array))
    ∷ writes (codes "[[b]]\nx = 1\n") (rename_at (ka ∷ []) kb (tree one_in_array))
    ∷ writes (codes "a = { b = 1 } # c\n") (rename_at (ka ∷ kb ∷ []) kb (tree inline_one))
    ∷ []
    ) ≡ true
unfolding digits print
renamed = refl

-- another slot has the name
name_is_taken : refuses taken (rename_at (kb ∷ []) kc (tree three_lines)) ≡ true
unfolding digits
name_is_taken = refl

abbrev placeholder : Tree
placeholder = record (tree three_lines) { slots = slot (plain_key ka) nothing no_slots }

-- no such key, also of a placeholder or of an element
nothing_to_rename : all_true (
    refuses no_such_path (rename_at (kt ∷ []) ky (tree three_lines))
    ∷ refuses no_such_path (rename_at (ka ∷ kb ∷ []) ky (tree three_lines))
    ∷ refuses no_such_path (rename_at (ka ∷ codes "0" ∷ []) ky (tree one_in_array))
    ∷ refuses no_such_path (rename_at [] ky (tree three_lines))
    ∷ refuses no_such_path (rename_at (ka ∷ []) ky placeholder)
    ∷ refuses no_such_path (move_at (ka ∷ []) 0 placeholder)
    ∷ refuses no_such_path (move_at [] 0 (tree three_lines))
    ∷ []
    ) ≡ true
unfolding digits
nothing_to_rename = refl

-- ---- places

moved : all_true (
    writes (codes "c = 3\n# one\na = 1\n\n# two\nb = 2 # x\n") (move_at (kc ∷ []) 0 (tree three_lines))
    ∷ writes (codes "# one\na = 1\nc = 3\n\n# two\nb = 2 # x\n") (move_at (kb ∷ []) 2 (tree three_lines))
    ∷ writes (codes "# one\na = 1\nc = 3\n\n# two\nb = 2 # x\n") (move_at (kb ∷ []) 7 (tree three_lines))
    ∷ []
    ) ≡ true
unfolding digits print
moved = refl

-- ---- the paths of a call

another_last_key : with_last kt (ka ∷ kb ∷ []) ≡ ka ∷ kt ∷ []
another_last_key = refl

both_paths : paths_of_call (renames (ka ∷ kb ∷ []) kt) ≡ (ka ∷ kb ∷ []) ∷ (ka ∷ kt ∷ []) ∷ []
both_paths = refl

-- a key inside a value is renamed or moved with that value
renames_inside_a_value : IsEditAt (renames (ka ∷ kb ∷ []) kt) (replace [] ka (λ k. k) nothing)
renames_inside_a_value = (kb, [], ([], tt, refl), λ l. refl)

moves_inside_a_value : IsEditAt (moves (ka ∷ kb ∷ []) 1) (replace [] ka (λ k. k) nothing)
moves_inside_a_value = (kb, [], ([], tt, refl), λ l. refl)

-- nothing is removed
renames_remove_nothing : IsEditAt (renames (ka ∷ []) kt) (remove [] ka) → ⊥
renames_remove_nothing h = h
