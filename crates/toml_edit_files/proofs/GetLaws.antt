-- Texts of items, one after another.
use Rattle.std.proofs.Common.{◌≡◌, ℕ, ◌+◌, ◌<◌, ◌≤◌, List, [], ◌∷◌, ◌++◌, length, get_or, drop, refl, sym, ap, ◌∙◌, append_assoc, append-nil, subst}
use Rattle.std.specs.Prelude.{Any, Option, Vec}
use Rattle.std.specs.declared.alloc.Global.{Global}
use Rattle.std.proofs.lemmas.List.{at_drop_all, drop_more, get_or-map, length-map}
use Rattle.toml_edit_edit_laws.specs.Commands.{item_at}
use Rattle.toml_edit_items.specs.declared.shape.Shape.{Shape}
use Rattle.toml_edit_model.specs.Keys.{names}
use Rattle.toml_edit_model.specs.Text.{Text}
use Rattle.toml_edit_model.specs.Tree.{Key, Node, Tree}
use Rattle.toml_edit_files.specs.Get.{AreGot, IsGot, found_at}

module _ (shape : Shape) (default : Option Text) (t : Tree) (paths : List (Vec Key Global)) (i : ℕ) (path : Vec Key Global)
    (h : i < length paths) (is : path ≡ get_or paths i path) where
  opened : found_at t (drop i paths) ≡ item_at (names path.items) t ∷ found_at t (drop (i + 1) paths)
  opened =
      ap (found_at t) (drop_more paths i path h)
      ∙ ap (λ (p : Vec Key Global). item_at (names p.items) t ∷ found_at t (drop (i + 1) paths)) (sym is)

  -- one more text is written
  pub path_turn : (done text : Text) (all : List (Option Node))
      → ((rest : Text) → AreGot shape default (found_at t (drop i paths)) rest → AreGot shape default all (done ++ rest))
      → IsGot shape default (item_at (names path.items) t) text
      → (rest : Text) → AreGot shape default (found_at t (drop (i + 1) paths)) rest → AreGot shape default all ((done ++ text) ++ rest)
  path_turn done text all more got rest others =
      subst (λ (s : Text). AreGot shape default all s) (sym (append_assoc done text rest))
      (more (text ++ rest) (subst (λ os. AreGot shape default os (text ++ rest)) (sym opened) (text, rest, got, others, refl)))

  -- what holds of what is found there holds of one
  pub path_among : (P : Option Node → Type 0) → P (item_at (names path.items) t) → Any P (found_at t paths)
  path_among P holds =
      let found = λ (p : Vec Key Global). item_at (names p.items) t in
      (i, found path, subst (λ (n : ℕ). i < n) (sym (length-map paths found)) h, get_or-map found paths i path (found path) h ∙ ap found (sym is), holds)

pub paths_end : (shape : Shape) (default : Option Text) (t : Tree) (paths : List (Vec Key Global)) (i : ℕ) → length paths ≤ i → (done : Text)
    (all : List (Option Node)) → ((rest : Text) → AreGot shape default (found_at t (drop i paths)) rest → AreGot shape default all (done ++ rest))
    → AreGot shape default all done
paths_end shape default t paths i h done all more =
    subst (λ (s : Text). AreGot shape default all s) (append-nil done)
    (more [] (subst (λ os. AreGot shape default os []) (sym (at_drop_all (found_at t) paths i h)) refl))
