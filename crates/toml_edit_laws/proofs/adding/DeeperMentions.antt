-- Mentions below a path, after others: they are seen from there, and change no slot and no fields above.
use Rattle.std.proofs.Common.{◌≡◌, refl, sym, ◌∙◌, ap, ℕ, ◌+◌, Bool, true, false, List, [], ◌∷◌, ◌++◌}
use Rattle.std.specs.Prelude.{◌&&◌, ◌||◌, not, if◌then◌else◌, map, filter}
use Rattle.std.specs.List.{list_any}
use Rattle.std.proofs.Math.Bool.{and-false}
use Rattle.toml_edit_model.specs.Text.{Text, is_empty}
use Rattle.toml_edit_model.specs.Syntax.{Segment, Frame, Value, key_line}
use Rattle.toml_edit_model.specs.Paths.{Step, at_key, at_element, Path, same_step, same_path, Mention, Source, Context, line_mentions}
use Rattle.toml_edit_model.specs.Paths.{source_of, mentions_of, path_start}
use Rattle.toml_edit_model.specs.TreeOf.{Form, made_by_path, key_extent, fields_of}
use Rattle.toml_edit_laws.specs.TableTree.{own_mentions}
use Rattle.toml_edit_laws.proofs.common.Tests.{append-nil, or-false}
use Rattle.toml_edit_laws.proofs.mentions.GatherLaws.{all_deeper, under-deeper, under-other, own-first, own-deeper, kept_from-deeper}
use Rattle.toml_edit_laws.proofs.inline_tables.PairMentions.{lines-deeper}
use Rattle.toml_edit_laws.proofs.mentions.SomeAt.{some_at-append, under-append}
use Rattle.toml_edit_model.specs.Roles.{Role, header_role, is_header_role, is_dotted_role, is_array_role, any_role}
use Rattle.toml_edit_model.specs.TableMentions.{under, own, roles, array_headers, some_at, is_single, is_slot, kept_from, kept}

-- ---- mentions below a path

-- the mentions with a path before each of theirs
abbrev pub below : {S : Type 0} → Path → List (Mention S) → List (Mention S)
below [] ns = ns
below (s ∷ p) ns = all_deeper s (below p ns)

-- A key line stands below its block.
pub line-block : {S : Type 0} (source : S) (start : ℕ) (p : Path) (segments : List Segment)
    → line_mentions source start p segments ≡ below p (line_mentions source start [] segments)
line-block source start [] segments = refl
line-block source start (s ∷ p) segments = lines-deeper source start s p segments ∙ ap (all_deeper s) (line-block source start p segments)

pub mentions_below : (c : Context) (f : Frame) (v : Value) (end : Text)
    → mentions_of c (key_line f v end) ≡ below c.block (own_mentions c (key_line f v end))
mentions_below c f v end = line-block (source_of c (key_line f v end)) (c.start + path_start (key_line f v end)) c.block f.path

-- no path below is empty where none is at first
pub own-below : {S : Type 0} (p : Path) (ns : List (Mention S)) → own ns ≡ [] → own (below p ns) ≡ []
own-below [] ns h = h
own-below (s ∷ p) ns h = own-deeper s (below p ns)

-- what a step sees of all, and another step
pub under-more : {S : Type 0} (s : Step) (ms ns : List (Mention S)) → under s (ms ++ all_deeper s ns) ≡ under s ms ++ ns
under-more s ms ns = under-append s ms (all_deeper s ns) ∙ ap (λ us. under s ms ++ us) (under-deeper s ns)

pub under-else : {S : Type 0} (s t : Step) (ms ns : List (Mention S)) → same_step s t ≡ false → under t ms ≡ under t (ms ++ all_deeper s ns)
under-else s t ms ns h =
    sym (under-append t ms (all_deeper s ns) ∙ ap (λ us. under t ms ++ us) (under-other s t ns h) ∙ append-nil (under t ms))

-- ---- deeper mentions change no slot

-- no path of one key is among paths that are longer
none-single : {S : Type 0} (test : Role → Bool) (s : Step) (p : Path) (ns : List (Mention S)) → own ns ≡ [] → is_single p ≡ true
    → some_at test p (all_deeper s ns) ≡ false
none-single test s p [] h e = refl
none-single {S} test s p (n ∷ ns) h e =
    let rest = own-first n ns h in
    ap (λ b. (b && test n.role) || some_at test p (all_deeper s ns)) (longer p n.path e rest.0) ∙ none-single test s p ns rest.1 e
  where
    longer : (p q : Path) → is_single p ≡ true → is_empty q ≡ false → same_path (s ∷ q) p ≡ false
    longer [] q e f = refl
    longer (t ∷ []) [] e f = absurd cc
    longer (t ∷ []) (u ∷ q) e f = and-false (same_step s t)
    longer (at_key k ∷ t ∷ p) q e f = absurd cc
    longer (at_element i ∷ t ∷ p) q e f = absurd cc

slot-same : {S : Type 0} (before : List (Mention S)) (m : Mention S) (after : List (Mention S)) (s : Step) (ns : List (Mention S)) → own ns
    ≡ []
    → is_slot before m (after ++ all_deeper s ns) ≡ is_slot before m after
slot-same {S} before m after s ns h = by_single (is_single m.path) refl
  where
    by_single : (b : Bool) → is_single m.path ≡ b
        → (b && (is_header_role m.role || (not (some_at any_role m.path before)
        && not (some_at is_header_role m.path (after ++ all_deeper s ns)))))
        ≡ (b && (is_header_role m.role || (not (some_at any_role m.path before) && not (some_at is_header_role m.path after))))
    by_single false e = refl
    by_single true e =
        ap (λ b. is_header_role m.role || (not (some_at any_role m.path before) && not b))
        (some_at-append is_header_role m.path after (all_deeper s ns)
        ∙ ap (λ b. some_at is_header_role m.path after || b) (none-single is_header_role s m.path ns h e)
        ∙ or-false (some_at is_header_role m.path after))

kept_from-more : {S : Type 0} (before ms : List (Mention S)) (s : Step) (ns : List (Mention S)) → own ns ≡ []
    → kept_from before (ms ++ all_deeper s ns) ≡ kept_from before ms
kept_from-more before [] s ns h = kept_from-deeper before s ns h
kept_from-more before (m ∷ ms) s ns h =
    ap (λ b. if b then m ∷ kept_from (before ++ (m ∷ [])) (ms ++ all_deeper s ns)
    else kept_from (before ++ (m ∷ [])) (ms ++ all_deeper s ns))
    (slot-same before m ms s ns h)
    ∙ ap (λ us. if is_slot before m ms then m ∷ us else us) (kept_from-more (before ++ (m ∷ [])) ms s ns h)

-- Deeper mentions, headers too, change no slot.
pub kept-more : {S : Type 0} (ms : List (Mention S)) (s : Step) (ns : List (Mention S)) → own ns ≡ [] → kept (ms ++ all_deeper s ns)
    ≡ kept ms
kept-more ms s ns h = kept_from-more [] ms s ns h

-- ---- they change no fields of the table above

own-more : {S : Type 0} (ms ns : List (Mention S)) → own ns ≡ [] → own (ms ++ ns) ≡ own ms
own-more [] ns h = h
own-more (m ∷ ms) ns h = ap (λ us. if is_empty m.path then m ∷ us else us) (own-more ms ns h)

pub roles-more : {S : Type 0} (ms ns : List (Mention S)) → own ns ≡ [] → roles (ms ++ ns) ≡ roles ms
roles-more {S} ms ns h = ap (λ us. map (λ (m : Mention S). m.role) us) (own-more ms ns h)

pub arrays-more : {S : Type 0} (ms ns : List (Mention S)) → own ns ≡ [] → array_headers (ms ++ ns) ≡ array_headers ms
arrays-more {S} ms ns h = ap (λ us. filter (λ (m : Mention S). is_array_role m.role) us) (own-more ms ns h)

pub fields-more : (form : Form) (ms ns : List (Mention Source)) (m : Mention Source) (r : Role) → own ns ≡ []
    → fields_of form (ms ++ ns) m r ≡ fields_of form ms m r
fields-more form ms ns m header_role h = refl
fields-more form ms ns m r h = ap (λ rs. made_by_path form (list_any is_dotted_role rs) (key_extent form m)) (roles-more ms ns h)
