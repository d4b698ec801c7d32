-- Statements that are right one after another, and the first that is not.
use Rattle.std.proofs.Common.{◌≡◌, refl, sym, ◌∙◌, ap, subst, ℕ, zero, suc, ◌+◌, Bool, true, false, List, [], ◌∷◌, ◌++◌, append_assoc}
use Rattle.std.proofs.Common.{length, None}
use Rattle.std.specs.Prelude.{◌&&◌, nat_le, map, if◌then◌else◌}
use Rattle.std.specs.List.{AllByRecursion, list_all}
use Rattle.std.proofs.lemmas.Grind.{flat_map-append}
use Rattle.toml_edit_model.specs.Text.{Text, one, is_empty}
use Rattle.toml_edit_model.specs.Syntax.{Segment, Header, Statement, key_line, header, Document, path_text, depth, nesting_limit, is_short}
use Rattle.toml_edit_model.specs.Syntax.{has_short_keys, keeps_ranges}
use Rattle.toml_edit_model.specs.Paths.{at_key, at_element, Path, to_key, to_element, Placed, Context, elements_at, in_last, header_path}
use Rattle.toml_edit_model.specs.Paths.{block_of, mentions_of, start_context, context_after, placed_from}
use Rattle.toml_edit_model.specs.Accepted.{agree, has_agreeing_pairs, is_sound, IsFirstFaulty}
use Rattle.toml_edit_model.specs.Faults.{Fault, recursion_limit, long_path, value_faults, own_faults}
use Rattle.toml_edit_laws.specs.OneByOne.{is_right_after, all_right_after}
use Rattle.toml_edit_laws.specs.Building.{keys_in, context_from, context_behind, done_places, next_place}
use Rattle.toml_edit_laws.proofs.common.Tests.{and_left, and_right, append-nil}
use Rattle.toml_edit_laws.proofs.values.ValueFaults.{is_right_value-faults}
use Rattle.toml_edit_laws.proofs.clashes.ClashContext.{HasKey, agree-each}
use Rattle.toml_edit_laws.proofs.clashes.ClashFirst.{placed-append}
use Rattle.toml_edit_laws.proofs.building.Conditions.{AreDone, done_first, done_next}
use Rattle.toml_edit_laws.proofs.mentions.Placed.{mentions_in, placed_at}
use Rattle.toml_edit_laws.proofs.common.Lists.{left-empty, right-empty}
use Rattle.toml_edit_laws.proofs.one_by_one.Together.{right-together}
use Rattle.toml_edit_laws.proofs.one_by_one.FirstFaulty.{wrong_there}
use Rattle.toml_edit_model.specs.Version.{v1_1}
use Rattle.toml_edit_model.specs.Roles.{may_meet}
use Rattle.toml_edit_model.specs.Lone.{is_accepted_value}

-- ---- the conditions, after statements

done-more : (c : Context) (ss : List Statement) (earlier : List Placed) → AllByRecursion HasKey ss → AreDone c (mentions_in earlier)
    → all_right_after earlier (placed_from c ss) ≡ true → AreDone (context_from c ss) (mentions_in (earlier ++ placed_from c ss))
done-more c [] earlier keyed h right = subst (λ es. AreDone c (mentions_in es)) (sym (append-nil earlier)) h
done-more c (s ∷ ss) earlier keyed h right =
    let here = placed_at c s in
    let ms = mentions_in earlier in
    let later = all_right_after (earlier ++ (here ∷ [])) (placed_from (context_after c s) ss) in
    let agreed : agree may_meet ms (mentions_of c s) ≡ true =
    sym (agree-each earlier (mentions_of c s))
    ∙ and_right (is_sound here.source.statement) (list_all (λ (e : Placed). agree may_meet e.mentions (mentions_of c s)) earlier)
    (and_left (is_right_after earlier here) later right) in
    let all : ms ++ mentions_of c s ≡ mentions_in (earlier ++ (here ∷ [])) =
    ap (λ ns. ms ++ ns) (sym (append-nil (mentions_of c s))) ∙ sym (flat_map-append (λ (e : Placed). e.mentions) earlier (here ∷ [])) in
    subst (λ es. AreDone (context_from (context_after c s) ss) (mentions_in es)) (append_assoc earlier (here
    ∷ []) (placed_from (context_after c s) ss))
    (done-more (context_after c s) ss (earlier ++ (here ∷ [])) keyed.1
    (subst (AreDone (context_after c s)) all (done_next c s ms keyed.0 h agreed))
    (and_right (is_right_after earlier here) later right))

-- After right statements.
pub done_all : (d : Document) (done : List Statement) → AllByRecursion HasKey done → all_right_after [] (done_places d done) ≡ true
    → AreDone (context_behind d done) (mentions_in (done_places d done))
done_all d done keyed right = done-more (start_context d) done [] keyed (done_first d) right

-- ---- one statement more

pub context-more : (c : Context) (done : List Statement) (s : Statement) → context_from c (done ++ one s)
    ≡ context_after (context_from c done) s
context-more c [] s = refl
context-more c (x ∷ done) s = context-more (context_after c x) done s

pub places-more : (d : Document) (done : List Statement) (s : Statement) → done_places d (done ++ one s) ≡ done_places d done
    ++ one (next_place d done s)
places-more d done s = placed-append (start_context d) done (one s)

pub mentions-more : (d : Document) (done : List Statement) (s : Statement)
    → mentions_in (done_places d (done ++ one s)) ≡ mentions_in (done_places d done) ++ mentions_of (context_behind d done) s
mentions-more d done s =
    ap mentions_in (places-more d done s)
    ∙ flat_map-append (λ (e : Placed). e.mentions) (done_places d done) (one (next_place d done s))
    ∙ ap (λ ns. mentions_in (done_places d done) ++ ns) (append-nil (mentions_of (context_behind d done) s))

-- ---- the first faulty one

-- A statement that isn't right after right ones is the first faulty one.
pub first_wrong : (d : Document) (done : List Statement) (s : Statement) (rest : List Statement) → d.statements ≡ done ++ (s ∷ rest)
    → all_right_after [] (done_places d done) ≡ true → is_right_after (done_places d done) (next_place d done s) ≡ false
    → IsFirstFaulty d (done_places d done) (next_place d done s)
first_wrong d done s rest is right wrong =
    record {
      later = placed_from (context_after (context_behind d done) s) rest;
      split = ap (placed_from (start_context d)) is ∙ placed-append (start_context d) done (s ∷ rest);
      right = right-together v1_1 (done_places d done) ∙ right;
      faulty = wrong_there v1_1 (done_places d done) (next_place d done s) wrong;
    }

-- ---- a statement without faults of its own

short-none : (p : List Segment) → long_path p ≡ [] → is_short p ≡ true
short-none p h = by_short (is_short p) (record { message = recursion_limit; span = None }) h
  where
    by_short : (b : Bool) (f : Fault) → (if b then [] else f ∷ []) ≡ [] → b ≡ true
    by_short true f h = refl
    by_short false f h = absurd cc

-- It is sound.
pub sound-of-none : (start : ℕ) (t : Statement) → own_faults start t ≡ [] → is_sound t ≡ true
sound-of-none start (key_line f v end) h =
    let i = start + length f.leading + length (path_text f.path) + length f.before_equals + 1 + length f.after_equals in
    let short = short-none f.path (left-empty (long_path f.path) (value_faults v i 0) h) in
    let right : is_accepted_value v ≡ true = sym (is_right_value-faults v i)
    ∙ ap is_empty (right-empty (long_path f.path) (value_faults v i 0) h) in
    together (is_short f.path) (nat_le (depth v) nesting_limit && has_short_keys v) (keeps_ranges v) (has_agreeing_pairs v) short right
  where
    together : (a b c d : Bool) → a ≡ true → ((b && c) && d) ≡ true → (((a && b) && c) && d) ≡ true
    together true b c d e h = h
    together false b c d e h = absurd cc
sound-of-none start (header x end) h = ap (λ b. (b && true) && true) (short-none x.path h)

-- ---- the keys of a block's path

keys-key : (p : Path) (k : Text) → keys_in (to_key p k) ≡ keys_in p ++ one k
keys-key [] k = refl
keys-key (at_key l ∷ p) k = ap (λ ks. l ∷ ks) (keys-key p k)
keys-key (at_element i ∷ p) k = keys-key p k

keys-element : (p : Path) (i : ℕ) → keys_in (to_element p i) ≡ keys_in p
keys-element [] i = refl
keys-element (at_key l ∷ p) i = ap (λ ks. l ∷ ks) (keys-element p i)
keys-element (at_element n ∷ p) i = keys-element p i

keys-last : (n : ℕ) (p : Path) → keys_in (in_last n p) ≡ keys_in p
keys-last zero p = refl
keys-last (suc n) p = keys-element p n

keys-header : (arrays : List Path) (p : Path) (segments : List Segment) → keys_in (header_path arrays p segments) ≡ keys_in p
    ++ map (λ s. s.key) segments
keys-header arrays p [] = sym (append-nil (keys_in p))
keys-header arrays p (g ∷ []) = keys-key p g.key
keys-header arrays p (g ∷ x ∷ rest) =
    let here = to_key p g.key in
    let more = map (λ (s : Segment). s.key) (x ∷ rest) in
    keys-header arrays (in_last (elements_at arrays here) here) (x ∷ rest)
    ∙ ap (λ ks. ks ++ more) (keys-last (elements_at arrays here) here ∙ keys-key p g.key)
    ∙ append_assoc (keys_in p) (one g.key) more

-- The keys of a header are those of the block that it opens.
pub keys-block : (c : Context) (h : Header) → keys_in (block_of c h) ≡ map (λ s. s.key) h.path
keys-block c h = by_array h.is_array
  where
    by_array : (b : Bool) → keys_in (if b then to_element (header_path c.arrays [] h.path)
        (elements_at c.arrays (header_path c.arrays [] h.path)) else header_path c.arrays [] h.path)
        ≡ map (λ (s : Segment). s.key) h.path
    by_array true = keys-element (header_path c.arrays [] h.path) (elements_at c.arrays (header_path c.arrays [] h.path))
        ∙ keys-header c.arrays [] h.path
    by_array false = keys-header c.arrays [] h.path
