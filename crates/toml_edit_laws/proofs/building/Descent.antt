-- A change of the slots of the table at some keys, and those slots by themselves.
use Rattle.std.proofs.Common.{◌≡◌, refl, sym, ◌∙◌, ap, subst, List, [], ◌∷◌, Option, Some, None}
use Rattle.std.specs.Prelude.{is_some, option_map, option_and_then}
use Rattle.toml_edit_model.specs.Text.{Text}
use Rattle.toml_edit_model.specs.Tree.{Node, nothing, leaf, list, inline, table, tables, Items, no_items, item, Slots}
use Rattle.toml_edit_laws.specs.InlineTree.{node_at, with_node}
use Rattle.toml_edit_laws.specs.TableTree.{change_last}
use Rattle.toml_edit_laws.specs.Building.{last_slots, block_slots, slots_along, change_in, change_along}
use Rattle.toml_edit_laws.specs.AddPath.{put_last, put_in, put_under, put_along}
use Rattle.toml_edit_laws.proofs.common.OptionSteps.{bind_some, some-is, is_some-map}

-- ---- the last element

pub last-change : (change : Slots → Option Slots) (put : Slots → Slots) (xs : Items) (us : Slots) → last_slots xs ≡ Some us → change us
    ≡ Some (put us)
    → change_last change xs ≡ Some (put_last put xs)
last-change change put no_items us e h = absurd cc
last-change change put (item (table f inner) no_items) us e h =
    let same : inner ≡ us = some-is inner us e in
    ap (option_map (λ (changed : Slots). item (table f changed) no_items)) (subst (λ (x : Slots). change x ≡ Some (put x)) (sym same) h)
last-change change put (item nothing no_items) us e h = absurd cc
last-change change put (item (leaf s x d) no_items) us e h = absurd cc
last-change change put (item (list f xs) no_items) us e h = absurd cc
last-change change put (item (inline f ss) no_items) us e h = absurd cc
last-change change put (item (tables f ss) no_items) us e h = absurd cc
last-change change put (item n (item m xs)) us e h = ap (option_map (item n)) (last-change change put (item m xs) us e h)

last-none : (change : Slots → Option Slots) (xs : Items) (us : Slots) → last_slots xs ≡ Some us → change us ≡ None → change_last change xs
    ≡ None
last-none change no_items us e h = absurd cc
last-none change (item (table f inner) no_items) us e h =
    let same : inner ≡ us = some-is inner us e in
    ap (option_map (λ (changed : Slots). item (table f changed) no_items)) (ap change same ∙ h)
last-none change (item nothing no_items) us e h = absurd cc
last-none change (item (leaf s x d) no_items) us e h = absurd cc
last-none change (item (list f xs) no_items) us e h = absurd cc
last-none change (item (inline f ss) no_items) us e h = absurd cc
last-none change (item (tables f ss) no_items) us e h = absurd cc
last-none change (item n (item m xs)) us e h = ap (option_map (item n)) (last-none change (item m xs) us e h)

-- ---- an item

in-change : (change : Slots → Option Slots) (put : Slots → Slots) (n : Node) (us : Slots) → block_slots n ≡ Some us → change us
    ≡ Some (put us)
    → change_in change n ≡ Some (put_in put n)
in-change change put (table f inner) us e h =
    let same : inner ≡ us = some-is inner us e in
    ap (option_map (table f)) (subst (λ (x : Slots). change x ≡ Some (put x)) (sym same) h)
in-change change put (tables x xs) us e h = ap (option_map (tables x)) (last-change change put xs us e h)
in-change change put nothing us e h = absurd cc
in-change change put (leaf s x d) us e h = absurd cc
in-change change put (list f xs) us e h = absurd cc
in-change change put (inline f ss) us e h = absurd cc

in-none : (change : Slots → Option Slots) (n : Node) (us : Slots) → block_slots n ≡ Some us → change us ≡ None → change_in change n ≡ None
in-none change (table f inner) us e h =
    let same : inner ≡ us = some-is inner us e in
    ap (option_map (table f)) (ap change same ∙ h)
in-none change (tables x xs) us e h = ap (option_map (tables x)) (last-none change xs us e h)
in-none change nothing us e h = absurd cc
in-none change (leaf s x d) us e h = absurd cc
in-none change (list f xs) us e h = absurd cc
in-none change (inline f ss) us e h = absurd cc

-- ---- a whole path

pub along-some : (ks : List Text) (change : Slots → Option Slots) (new ss inner : Slots) → slots_along ks ss ≡ Some inner → change inner
    ≡ Some new
    → change_along ks change ss ≡ Some (put_along ks new ss)
along-some [] change new ss inner e h =
    let same : ss ≡ inner = some-is ss inner e in
    ap change same ∙ h
along-some (k ∷ ks) change new ss inner e h =
    let (us, there, further) = bind_some (option_and_then block_slots (node_at k ss)) (slots_along ks) inner e in
    let (n, at, within) = bind_some (node_at k ss) block_slots us there in
    ap (option_and_then (λ (x : Node). option_map (λ (changed : Node). with_node k changed ss) (change_in (change_along ks change) x))) at
    ∙ ap (option_map (λ (changed : Node). with_node k changed ss))
    (in-change (change_along ks change) (put_along ks new) n us within (along-some ks change new us inner further h))
    ∙ sym (ap (λ (o : Option Node). Some (put_under k (put_along ks new) ss o)) at)

along-none : (ks : List Text) (change : Slots → Option Slots) (ss inner : Slots) → slots_along ks ss ≡ Some inner → change inner ≡ None
    → change_along ks change ss ≡ None
along-none [] change ss inner e h =
    let same : ss ≡ inner = some-is ss inner e in
    ap change same ∙ h
along-none (k ∷ ks) change ss inner e h =
    let (us, there, further) = bind_some (option_and_then block_slots (node_at k ss)) (slots_along ks) inner e in
    let (n, at, within) = bind_some (node_at k ss) block_slots us there in
    ap (option_and_then (λ (x : Node). option_map (λ (changed : Node). with_node k changed ss) (change_in (change_along ks change) x))) at
    ∙ ap (option_map (λ (changed : Node). with_node k changed ss))
    (in-none (change_along ks change) n us within (along-none ks change us inner further h))

-- A change of the slots at some keys is the change of what is there, put back.
pub along_lens : (ks : List Text) (change : Slots → Option Slots) (ss inner : Slots) → slots_along ks ss ≡ Some inner
    → change_along ks change ss ≡ option_map (λ new. put_along ks new ss) (change inner)
along_lens ks change ss inner e = by_change (change inner) refl
  where
    by_change : (o : Option Slots) → change inner ≡ o → change_along ks change ss ≡ option_map (λ (new : Slots). put_along ks new ss) o
    by_change None h = along-none ks change ss inner e h
    by_change (Some new) h = along-some ks change new ss inner e h

pub along_goes : (ks : List Text) (change : Slots → Option Slots) (ss inner : Slots) → slots_along ks ss ≡ Some inner
    → is_some (change_along ks change ss) ≡ is_some (change inner)
along_goes ks change ss inner e = ap is_some (along_lens ks change ss inner e)
    ∙ is_some-map (λ (new : Slots). put_along ks new ss) (change inner)
