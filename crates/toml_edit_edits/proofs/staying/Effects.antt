-- What is known where an edit of an item at a path was made.
use Rattle.std.proofs.Common.{◌≡◌, refl, sym, ◌∙◌, ap, Bool, true, false, List, [], ◌∷◌, ◌++◌, Option, Some, None}
use Rattle.std.specs.Prelude.{◌||◌, if◌then◌else◌, option_map, Result, Ok, Err}
use Rattle.std.specs.Option.{ok_or}
use Rattle.toml_edit_model.specs.Comments.{with_comment_after}
use Rattle.toml_edit_model.specs.Conversions.{with_decor}
use Rattle.toml_edit_model.specs.Lists.{is_dotted_inline, is_dotted_table, on_slots, slots_from, slots_in}
use Rattle.toml_edit_model.specs.Rearranging.{is_free, renamed_slot}
use Rattle.toml_edit_model.specs.Slots.{Slot, has_slot}
use Rattle.toml_edit_model.specs.Sorting.{sorted_slots}
use Rattle.toml_edit_model.specs.Text.{Text}
use Rattle.toml_edit_model.specs.Tree.{Key, Node, Tree, inline, leaf, list, nothing, table, tables}
use Rattle.toml_edit_edit_laws.specs.Commands.{done}
use Rattle.toml_edit_edit_laws.specs.Headed.{set_at_with_headers}
use Rattle.toml_edit_edit_laws.specs.PathEdits.{with_last}
use Rattle.toml_edit_laws.proofs.common.Tests.{if-false}
use Rattle.toml_edit_paths.specs.Calls.{replaced_at}
use Rattle.toml_edit_repr.specs.Comments.{may_stand}
use Rattle.toml_edit_slots.specs.Renaming.{renaming}
use Rattle.toml_edit_slots.specs.declared.slots.rearrange.Renamed.{Renamed}
use Rattle.toml_edit_slots.specs.declared.slots.rearrange.Renamed.TheVariants as renames
use Rattle.toml_edit_edits.specs.Effects.{at_end, body_of, changed_below, changed_by, ended, headed, if_may_stand, in_order, on_table, slots_renamed, told, with_comment}
use Rattle.toml_edit_edits.specs.Elements.{is_tables_at, on_kind}
use Rattle.toml_edit_edits.specs.Missing.{is_numbered, unled}
use Rattle.toml_edit_edits.specs.Outcomes.{and_then, of_answer}
use Rattle.toml_edit_edits.specs.declared.fault.EditFault.{EditFault}
use Rattle.toml_edit_edits.specs.declared.fault.EditFault.TheVariants.{BadComment, NoSuchPath, WrongKind}
use Rattle.toml_edit_edits.proofs.MoveLaws.{answered, there-is, went}
use Rattle.toml_edit_edits.proofs.staying.Words.{IsCommented, IsSorted}

-- ---- the end of a path

-- the path that ends so, or else this one
abbrev joined : {A : Type 0} → List A → Option (List A × A) → List A
joined path None = path
joined path (Some x) = x.0 ++ (x.1 ∷ [])

pub ended-is : {A : Type 0} (path : List A) (e : List A × A) → ended path ≡ Some e → path ≡ e.0 ++ (e.1 ∷ [])
ended-is [] e h = absurd cc
ended-is (k ∷ []) e h = ap (λ o. joined (k ∷ []) o) h
ended-is {A} (k ∷ l ∷ path) e h = by_end (ended (l ∷ path)) refl h (λ x g. ended-is (l ∷ path) x g)
  where
    by_end : (o : Option (List A × A)) → ended (l ∷ path) ≡ o → option_map (λ x. (k ∷ x.0, x.1)) o ≡ Some e
        → ((x : List A × A) → ended (l ∷ path) ≡ Some x → l ∷ path ≡ x.0 ++ (x.1 ∷ [])) → k ∷ l ∷ path ≡ e.0 ++ (e.1 ∷ [])
    by_end None g h ih = absurd cc
    by_end (Some x) g h ih = ap (λ (q : List A). k ∷ q) (ih x g) ∙ ap (λ o. joined (k ∷ l ∷ path) o) h

-- an edit of the last key of a path
pub at-end-was : {A : Type 0} (go : List A → A → Result Tree EditFault) (path : List A) (u : Tree) → at_end go path ≡ Ok u
    → (above : List A) × (last : A) × (path ≡ above ++ (last ∷ [])) × (go above last ≡ Ok u)
at-end-was go path u h =
    let x = went (λ e. go e.0 e.1) (ok_or (ended path) NoSuchPath) u h in
    (x.0.0, x.0.1, ended-is path x.0 (there-is (ended path) NoSuchPath x.0 x.1), x.2)

pub last-is : (u k : Text) (front : List Text) → with_last u (front ++ (k ∷ [])) ≡ front ++ (u ∷ [])
last-is u k [] = refl
last-is u k (j ∷ []) = refl
last-is u k (j ∷ i ∷ front) = ap (λ (q : List Text). j ∷ q) (last-is u k (i ∷ front))

-- ---- the item at a path

pub record WasChanged (go : Node → Result Node EditFault) (path : List Text) (t u : Tree) (found : Option Node) : Type 0 where
  pub old : Node
  pub new : Node
  pub there : found ≡ Some old
  pub goes : go old ≡ Ok new
  pub put : replaced_at path new t ≡ done u

pub was-changed : (go : Node → Result Node EditFault) (path : List Text) (t u : Tree) (found : Option Node) → changed_by go path t found ≡ Ok u
    → WasChanged go path t u found
was-changed go path t u found h =
    let x = went (λ m. of_answer (replaced_at path m t)) (and_then go (ok_or found NoSuchPath)) u h in
    let y = went go (ok_or found NoSuchPath) x.0 x.1 in
    record {
      old = y.0;
      new = x.0;
      there = there-is found NoSuchPath y.0 y.1;
      goes = y.2;
      put = answered (replaced_at path x.0 t) u x.2;
    }

-- ---- tables for a value

pub headed-was : (path : List Key) (v : Node) (t u : Tree) → headed path v t ≡ Ok u → set_at_with_headers path v t ≡ done u
headed-was path v t u h = answered (set_at_with_headers path v t) u (by_test (is_numbered (unled path t)) h)
  where
    by_test : (b : Bool) → (if b then Err NoSuchPath else of_answer (set_at_with_headers path v t)) ≡ Ok u
        → of_answer (set_at_with_headers path v t) ≡ Ok u
    by_test true g = absurd cc
    by_test false g = g

-- ---- by the kind of an item

pub kind-was : (go : Node → Result Node EditFault) (other : Result Tree EditFault) (path : List Text) (t u : Tree)
    → is_tables_at path t ≡ false → on_kind go other path t ≡ Ok u → other ≡ Ok u
kind-was go other path t u is h = sym (if-false (is_tables_at path t) (changed_below go path t) other is) ∙ h

-- ---- a renaming

pub record WasRenamed (k u : Text) (n m : Node) : Type 0 where
  pub slots : List (Slot Node)
  pub there : slots_in n ≡ Some slots
  pub has : has_slot k slots ≡ true
  pub free : is_free k u slots ≡ true
  pub is : m ≡ on_slots (λ _. renamed_slot k u slots) n

told-was : (k u : Text) (es xs : List (Slot Node)) (a b : Bool) → has_slot k es ≡ a → is_free k u es ≡ b
    → told xs (if a then (if b then renames.Done else renames.Taken) else renames.Absent) ≡ Ok xs
    → (has_slot k es ≡ true) × (is_free k u es ≡ true)
told-was k u es xs true true e f h = (e, f)
told-was k u es xs true false e f h = absurd cc
told-was k u es xs false b e f h = absurd cc

told-is : (xs ys : List (Slot Node)) (r : Renamed) → told xs r ≡ Ok ys → ys ≡ xs
told-is xs ys renames.Done h = cc
told-is xs ys renames.Absent h = absurd cc
told-is xs ys renames.Taken h = absurd cc

pub was-renamed : (k u : Text) (n m : Node) → on_table (slots_renamed k u) n ≡ Ok m → WasRenamed k u n m
was-renamed k u n m h =
    let x = went (λ es. Ok (on_slots (λ _. es) n)) (and_then (slots_renamed k u) (ok_or (slots_in n) WrongKind)) m h in
    let y = went (slots_renamed k u) (ok_or (slots_in n) WrongKind) x.0 x.1 in
    let es : List (Slot Node) = y.0 in
    let xs : List (Slot Node) = renamed_slot k u es in
    let same : x.0 ≡ xs = told-is xs x.0 (renaming k u es) y.2 in
    let both = told-was k u es xs (has_slot k es) (is_free k u es) refl refl (y.2 ∙ ap (λ z. Ok z) same) in
    let left : on_slots (λ _. x.0) n ≡ m = let e : ◌≡◌ {A = Result Node EditFault} (Ok (on_slots (λ _. x.0) n)) (Ok m) = x.2 in cc in
    record {
      slots = es;
      there = there-is (slots_in n) WrongKind es y.1;
      has = both.0;
      free = both.1;
      is = sym left ∙ ap (λ zs. on_slots (λ _. zs) n) same;
    }

-- ---- a comment

may-stand-was : (t : Text) (n m : Node) (b : Bool) → (if b then Ok n else Err BadComment) ≡ Ok m → m ≡ n
may-stand-was t n m true h = cc
may-stand-was t n m false h = absurd cc

pub was-commented : (t : Text) (n m : Node) → with_comment t n ≡ Ok m → IsCommented (body_of t) n m
was-commented t nothing m h = absurd cc
was-commented t (tables e xs) m h = absurd cc
was-commented t (table f ss) m h = by_test (f.is_dotted || f.is_implicit) h
  where
    by_test : (b : Bool)
        → (if b then Err WrongKind else if_may_stand t (table (record f { decor = with_comment_after (body_of t) f.decor }) ss)) ≡ Ok m
        → m ≡ table (record f { decor = with_comment_after (body_of t) f.decor }) ss
    by_test true g = absurd cc
    by_test false g = may-stand-was t (table (record f { decor = with_comment_after (body_of t) f.decor }) ss) m (may_stand (body_of t)) g
was-commented t (leaf s r d) m h =
    may-stand-was t (with_decor (with_comment_after (body_of t) d) (leaf s r d)) m (may_stand (body_of t)) h
was-commented t (list f xs) m h =
    may-stand-was t (with_decor (with_comment_after (body_of t) f.decor) (list f xs)) m (may_stand (body_of t)) h
was-commented t (inline f ss) m h =
    may-stand-was t (with_decor (with_comment_after (body_of t) f.decor) (inline f ss)) m (may_stand (body_of t)) h

-- ---- an order

ok-same : (n m : Node) → ◌≡◌ {A = Result Node EditFault} (Ok n) (Ok m) → m ≡ n
ok-same n m h = cc

pub was-sorted : (n m : Node) → in_order n ≡ Ok m → IsSorted n m
was-sorted (table f ss) m h = ok-same (table f (slots_from (sorted_slots is_dotted_table ss))) m h
was-sorted (inline f ss) m h = ok-same (inline f (slots_from (sorted_slots is_dotted_inline ss))) m h
was-sorted (leaf s r d) m h = absurd cc
was-sorted (list f xs) m h = absurd cc
was-sorted (tables e xs) m h = absurd cc
was-sorted nothing m h = absurd cc
