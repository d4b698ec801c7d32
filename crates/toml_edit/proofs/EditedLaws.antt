-- A document that calls by paths have edited.
use Rattle.std.proofs.Common.{◌≡◌, inl, inr, refl, sym, ◌∙◌, ap, subst, ℕ, Bool, IsTrue, false, true, List, [], ◌∷◌, ◌++◌, append-nil, append_assoc, Result, Ok, Err}
use Rattle.std.specs.Prelude.{IfOk, OnOk, flat_map}
use Rattle.std.specs.List.{AllByRecursion}
use Rattle.toml_edit_model.specs.Fits.{Fits}
use Rattle.toml_edit_laws.proofs.common.Tests.{and_left}
use Rattle.toml_edit_model.specs.Text.{Text}
use Rattle.toml_edit_model.specs.Mode.{Mode, plain}
use Rattle.toml_edit_model.specs.Paths.{Path}
use Rattle.toml_edit_model.specs.Tree.{IsWellMade, Key, Node, nothing, leaf, list, inline, table, tables, Tree, node_decor}
use Rattle.toml_edit_model.specs.Keys.{names}
use Rattle.toml_edit_model.specs.Print.{print_in}
use Rattle.toml_edit_edit_laws.specs.Commands.{Answer, done, root_item, set_at, remove_at}
use Rattle.toml_edit_edit_laws.specs.KeyCalls.{move_at, rename_at}
use Rattle.toml_edit_edit_laws.specs.PathEdits.{CallMeans, PathCall, sets, removes, renames, moves, called, places_of_call, OneCallMore}
use Rattle.toml_edit_edit_laws.specs.PathEdits.{MoveEdits, RemoveEdits, RenameEdits, SetAddsAfterLines}
use Rattle.toml_edit_edit_laws.specs.PathEdits.{SetAddsUnder, SetReplaces}
use Rattle.toml_edit_edit_laws.specs.CallsFit.{IsHarmlessBelow, RemoveFits, SetAddsAfterLinesFits, SetAddsUnderFits, SetReplacesFits}
use Rattle.toml_edit_edit_laws.specs.CommandLaws.{is_scalar}
use Rattle.toml_edit_edit_laws.specs.Fitting.{IsSpaced}
use Rattle.toml_edit_laws.specs.Locality.{is_plain_value}
use Rattle.toml_edit_edit_laws.proofs.means.Calls.{adding-means, removal-means, replacing-means}
use Rattle.toml_edit_edit_laws.proofs.means.Keys.{move_means, rename_means}
use Rattle.toml_edit_edit_laws.proofs.means.Meant.{shown-there}
use Rattle.toml_edit_edit_laws.proofs.path_calls.Names.{all_are_called}
use Rattle.toml_edit_edit_laws.proofs.fitting.Edits.{scalars_fit_anywhere}
use Rattle.toml_edit_edit_laws.specs.Staying.{StaysButAt, NothingChanges, OneAfterAnother}
use Rattle.toml_edit_slots.specs.declared.slots.rearrange.Renamed.{Renamed}
use Rattle.toml_edit_slots.specs.declared.slots.rearrange.Renamed.TheVariants.{Done, Absent, Taken}
use Rattle.toml_edit_paths.specs.Changes.{Changes, Moves, Renames}
use Rattle.toml_edit_paths.specs.declared.fault.ChangeFault.{ChangeFault}
use Rattle.toml_edit.specs.DocumentView.{IsPlain, IsPrintedAs, open_owned, tree_owned}
use Rattle.toml_edit.specs.Documents.{IsOwnedReading}
use Rattle.toml_edit.specs.Edited.{EditedPrints, IsEditedFrom, EditsBy, IsHarmless, IsPlainValue, MayBePut, at_value, in_block, after_lines}
use Rattle.toml_edit.proofs.PrintMeaning.{made-print}
use Rattle.toml_edit.proofs.SetMade.{value-made}
use Rattle.toml_edit.specs.declared.document.DocumentMut.{DocumentMut}

pub done-where-ok : (meant : Answer Tree) (old new : Tree) (r : Result (Unit {0}) ChangeFault) → Changes meant old new r
    → OnOk r (meant ≡ done new)
done-where-ok meant old new (Ok u) h = h
done-where-ok meant old new (Err e) h = tt

pub done-where-renamed : {E : Type 0} (meant : Answer Tree) (old new : Tree) (r : Result Renamed E) → Renames meant old new r
    → IfOk r (λ told. told ≡ Done → meant ≡ done new)
done-where-renamed meant old new (Ok Done) h = λ _. h
done-where-renamed meant old new (Ok Absent) h = λ e. absurd cc
done-where-renamed meant old new (Ok Taken) h = λ e. absurd cc
done-where-renamed meant old new (Err e) h = tt

pub done-where-moved : (meant : Answer Tree) (old new : Tree) (b : Bool) → Moves meant old new b → IsTrue b → meant ≡ done new
done-where-moved meant old new true h is = h
done-where-moved meant old new false h is = absurd cc

pub read-so : ((mode : Mode) → NothingChanges mode) → (text : Text) (d : DocumentMut) → IsOwnedReading text (tree_owned d) → IsPlain d
    → IsEditedFrom text (tree_owned d) [] d
read-so law text d reading p =
    record {
      edited = record {
        reading = reading;
        called = refl;
        places = [];
        done = refl;
        stays = law plain (tree_owned d) reading.tree.made (reading.tree.steady plain);
      };
      plain = p;
      fits = λ _. reading.tree.fits plain;
    }

-- the calls before the last one, and the last
all-before : (calls : List PathCall) (c : PathCall) → AllByRecursion IsHarmless (calls ++ (c ∷ []))
    → AllByRecursion IsHarmless calls × IsHarmless c
all-before [] c h = (tt, h.0)
all-before (b ∷ calls) c h = let r = all-before calls c h.1 in ((h.0, r.0), r.1)

harmless-scalar : (v : Node) → is_scalar v ≡ true → IsSpaced plain (node_decor v) → IsHarmlessBelow plain [] v
harmless-scalar (leaf s r d) is white = (white, scalars_fit_anywhere plain s r d, refl)
harmless-scalar (list f xs) is white = absurd cc
harmless-scalar (inline f ss) is white = absurd cc
harmless-scalar (table f ss) is white = absurd cc
harmless-scalar (tables e xs) is white = absurd cc
harmless-scalar nothing is white = absurd cc

-- the places of calls, one list for each
all-places : (pss : List (List Path)) (ps : List Path) → flat_map (λ qs. qs) (pss ++ (ps ∷ [])) ≡ flat_map (λ qs. qs) pss ++ ps
all-places [] ps = append-nil ps
all-places (qs ∷ pss) ps = ap (λ z. qs ++ z) (all-places pss ps) ∙ sym (append_assoc qs (flat_map (λ qs. qs) pss) ps)

module _ (both : (mode : Mode) → OneAfterAnother mode) (more : OneCallMore) (d e : DocumentMut) (same : IsPrintedAs e d) where
  one-more : (c : PathCall) (text : Text) (tree : Tree) (calls : List PathCall) → IsEditedFrom text tree calls d
      → called c (tree_owned d) ≡ done (tree_owned e) → CallMeans c (tree_owned d) (tree_owned e)
      → StaysButAt plain (places_of_call c (tree_owned d)) (tree_owned d) (tree_owned e)
      → (Fits (tree_owned d) → IsHarmless c → Fits (tree_owned e)) → IsEditedFrom text tree (calls ++ (c ∷ [])) e
  one-more c text tree calls from is means stays fits =
      let x = from.edited in
      let ps : List Path = places_of_call c (tree_owned d) in
      let all = more calls x.places tree (tree_owned d) (tree_owned e) c ps x.done is refl means in
      record {
        edited = record {
          reading = x.reading;
          called = all_are_called (calls ++ (c ∷ [])) (x.places ++ (ps ∷ [])) tree (tree_owned e) all;
          places = x.places ++ (ps ∷ []);
          done = all;
          stays = subst (λ qs. StaysButAt plain qs tree (tree_owned e)) (sym (all-places x.places ps))
              (both plain (flat_map (λ qs. qs) x.places) ps tree (tree_owned d) (tree_owned e) x.stays stays);
        };
        plain = (same.0 ∙ from.plain.0, same.1 ∙ from.plain.1);
        fits = λ harmless. let h = all-before calls c harmless in fits (from.fits h.0) h.1;
      }

  -- what a call by the same keys means, and leaves
  at-keys : (path keys : List Key) (v : Node) → path ≡ keys → CallMeans (sets keys v) (tree_owned d) (tree_owned e)
      → StaysButAt plain (places_of_call (sets keys v) (tree_owned d)) (tree_owned d) (tree_owned e)
      → CallMeans (sets path v) (tree_owned d) (tree_owned e)
      × StaysButAt plain (places_of_call (sets path v) (tree_owned d)) (tree_owned d) (tree_owned e)
  at-keys path keys v is means stays = (
    subst (λ q. CallMeans (sets q v) (tree_owned d) (tree_owned e)) (sym is) means,
    subst (λ q. StaysButAt plain (places_of_call (sets q v) (tree_owned d)) (tree_owned d) (tree_owned e)) (sym is) stays,
  )

  pub renamed-so : ((mode : Mode) → RenameEdits mode) → (path : List Text) (name : Text)
      → rename_at path name (tree_owned d) ≡ done (tree_owned e) → EditsBy (renames path name) d e
  renamed-so law path name is text tree calls from =
      let s = from.edited.stays in
      let x = (law plain (tree_owned d) (tree_owned e) path name s.made s.steady.2 is).1 in
      let means = rename_means (tree_owned d) (tree_owned e) path name s.made is in
      one-more (renames path name) text tree calls from is means x (λ old h. absurd h)

  pub moved-so : ((mode : Mode) → MoveEdits mode) → (path : List Text) (i : ℕ)
      → move_at path i (tree_owned d) ≡ done (tree_owned e) → EditsBy (moves path i) d e
  moved-so law path i is text tree calls from =
      let s = from.edited.stays in
      let x = (law plain (tree_owned d) (tree_owned e) path i s.made s.steady.2 is).1 in
      let means = move_means (tree_owned d) (tree_owned e) path i s.made is in
      one-more (moves path i) text tree calls from is means x (λ old h. absurd h)

  pub removed-so : ((mode : Mode) → RemoveEdits mode) → ((mode : Mode) → RemoveFits mode) → (path : List Text)
      → remove_at path (tree_owned d) ≡ done (tree_owned e) → EditsBy (removes path) d e
  removed-so law fits path is text tree calls from =
      let s = from.edited.stays in
      let x = law plain (tree_owned d) (tree_owned e) path s.made s.steady.2 is in
      one-more (removes path) text tree calls from is (removal-means (tree_owned d) (tree_owned e) path s.made is) x.stays
      (λ old _. fits plain (tree_owned d) (tree_owned e) path s.made s.steady.2 old is)

  module _ (replaces : (mode : Mode) → SetReplaces mode) (adds : (mode : Mode) → SetAddsUnder mode)
      (lines : (mode : Mode) → SetAddsAfterLines mode) (replaces-fit : (mode : Mode) → SetReplacesFits mode)
      (adds-fit : (mode : Mode) → SetAddsUnderFits mode) (lines-fit : (mode : Mode) → SetAddsAfterLinesFits mode) where
    put-so : (path : List Key) (v : Node) → set_at path v (tree_owned d) ≡ done (tree_owned e) → is_plain_value v ≡ true
        → IsWellMade v → MayBePut (tree_owned d) path → EditsBy (sets path v) d e
    put-so path v is flat well (at_value old there value) text tree calls from =
        let s = from.edited.stays in
        let at = shown-there (names path) false (root_item (tree_owned d)) old there in
        let x = replaces plain (tree_owned d) (tree_owned e) path v old s.made s.steady.2 well flat at (and_left _ _ value) is in
        let means = replacing-means (tree_owned d) (tree_owned e) path v old s.made there value flat is in
        one-more (sets path v) text tree calls from is means x.stays
        (λ fits h. replaces-fit plain (tree_owned d) (tree_owned e) path v old s.made s.steady.2 fits well h.0 at value is)
    put-so path v is flat well (in_block front k w same-path spelled named new has) text tree calls from =
        let s = from.edited.stays in
        let at-path = ap (λ q. set_at q v (tree_owned d)) (sym same-path) ∙ is in
        let x = adds plain (tree_owned d) (tree_owned e) front w k [] v s.made s.steady.2 well flat (spelled, tt) named new has at-path in
        let means = adding-means plain (tree_owned d) (tree_owned e) front w k v s.made named (inl has) flat at-path in
        let y = at-keys path (front ++ (k ∷ [])) v same-path means x.stays in
        one-more (sets path v) text tree calls from is y.0 y.1
        (λ fits h. adds-fit plain (tree_owned d) (tree_owned e) front w k [] v s.made s.steady.2 fits well flat (spelled, tt) named new has
        (harmless-scalar v h.0 h.1) at-path)
    put-so path v is flat well (after_lines front k w same-path spelled named new some) text tree calls from =
        let s = from.edited.stays in
        let at-path = ap (λ q. set_at q v (tree_owned d)) (sym same-path) ∙ is in
        let x = lines plain (tree_owned d) (tree_owned e) front w k [] v s.made s.steady.2 well flat (spelled, tt) named new some at-path in
        let means = adding-means plain (tree_owned d) (tree_owned e) front w k v s.made named (inr some) flat at-path in
        let y = at-keys path (front ++ (k ∷ [])) v same-path means x.1 in
        one-more (sets path v) text tree calls from is y.0 y.1
        (λ fits h. lines-fit plain (tree_owned d) (tree_owned e) front w k [] v s.made s.steady.2 fits flat named new some
        (harmless-scalar v h.0 h.1) at-path)

    pub set-so : (path : List Key) (v : Node) → set_at path v (tree_owned d) ≡ done (tree_owned e) → IsPlainValue v (tree_owned e)
        → MayBePut (tree_owned d) path → EditsBy (sets path v) d e
    set-so path v is (flat, inl well) may text tree calls from = put-so path v is flat well may text tree calls from
    set-so path v is (flat, inr made) may text tree calls from =
        put-so path v is flat (value-made path v (tree_owned d) (tree_owned e) from.edited.stays.made is made) may text tree calls from

-- the print of a document that fits
pub edited-prints : EditedPrints
edited-prints text tree calls d from fits =
    record {
      left = tree_owned d;
      edited = from.edited;
      print = ap (λ m. print_in m (open_owned d) (tree_owned d)) from.plain.0
          ∙ ap (λ b. print_in plain b (tree_owned d)) from.plain.1;
      back = made-print plain false (tree_owned d) (record { made = from.edited.stays.made; fits = fits });
    }
