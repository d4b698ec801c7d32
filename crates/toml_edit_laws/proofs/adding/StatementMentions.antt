-- What holds of the mentions that a table sees holds of those of statements, each of which agrees with the ones before it.
use Rattle.std.proofs.Common.{◌≡◌, refl, sym, ◌∙◌, ap, subst, ℕ, zero, suc, ◌+◌, Bool, true, false, List, [], ◌∷◌, ◌++◌, append_assoc, inl}
use Rattle.std.proofs.Common.{inr}
use Rattle.std.specs.Prelude.{◌&&◌, ◌||◌, not, if◌then◌else◌}
use Rattle.std.specs.List.{list_all}
use Rattle.std.proofs.lemmas.Bool.{or_from}
use Rattle.std.proofs.lemmas.Grind.{flat_map-append}
use Rattle.toml_edit_model.specs.Text.{one}
use Rattle.toml_edit_model.specs.Syntax.{Segment, Statement, key_line, header, Document}
use Rattle.toml_edit_model.specs.Paths.{at_key, at_element, Path, same_path, to_key, to_element, Mention, next_start, line_mentions}
use Rattle.toml_edit_model.specs.Paths.{elements_at, in_last, header_mentions, header_path, header_role_of, path_start, Source, Placed}
use Rattle.toml_edit_model.specs.Paths.{Context, source_of, mentions_of, context_after, placed_from, start_context, all_mentions}
use Rattle.toml_edit_model.specs.Accepted.{agree, is_accepted}
use Rattle.toml_edit_laws.specs.OneByOne.{is_right_after, all_right_after}
use Rattle.toml_edit_laws.proofs.common.Tests.{append-nil, and_left, and_right, or-true}
use Rattle.toml_edit_laws.proofs.inline_tables.AgreeLaws.{agree-apart}
use Rattle.toml_edit_laws.proofs.common.Members.{Among, among-right, among-cases}
use Rattle.toml_edit_laws.proofs.mentions.KeyMentions.{line-role}
use Rattle.toml_edit_laws.proofs.mentions.KeptOrder.{HaveOneHeader, statement-named}
use Rattle.toml_edit_laws.proofs.adding.TableMentions.{HaveHeaders, IsReached, AreReachedIn, AreOfTable, of_nothing, reached-left}
use Rattle.toml_edit_laws.proofs.mentions.Placed.{mentions_in, is_header, header-source, right-agrees}
use Rattle.toml_edit_laws.proofs.common.PathLaws.{same_path-refl}
use Rattle.toml_edit_laws.proofs.mentions.SomeAt.{some_at-append, some_at-under}
use Rattle.toml_edit_laws.proofs.mentions.OneHeaderLaws.{statement-header}
use Rattle.toml_edit_laws.proofs.common.Each.{all-append}
use Rattle.toml_edit_laws.proofs.mentions.Named.{EndsIn}
use Rattle.toml_edit_laws.proofs.one_by_one.Together.{accepted-right}
use Rattle.toml_edit_model.specs.Roles.{Role, header_role, may_meet, is_header_role, any_role}
use Rattle.toml_edit_model.specs.TableMentions.{under, some_at}

-- ---- paths that are reached

pub among-some : {S : Type 0} (m : Mention S) (ms : List (Mention S)) → Among m ms → some_at any_role m.path ms ≡ true
among-some m [] h = elim h [ ]
among-some m (n ∷ ms) (inl e) =
    ap (λ p. (same_path n.path p && true) || some_at any_role p ms) (ap (λ x. x.path) e)
    ∙ ap (λ b. (b && true) || some_at any_role n.path ms) (same_path-refl n.path)
among-some m (n ∷ ms) (inr h) =
    ap (λ b. (same_path n.path m.path && true) || b) (among-some m ms h) ∙ or-true (same_path n.path m.path && true)

-- one key further, where that is mentioned, and one element further
pub reached-key : {S : Type 0} (p : Path) (m : Mention S) (all : List (Mention S)) → IsReached p all
    → some_at any_role (to_key p m.segment.key) all ≡ true
    → IsReached (to_key p m.segment.key) all
reached-key [] m all h e = (e, tt)
reached-key (at_key l ∷ p) m all h e =
    (h.0, reached-key p m (under (at_key l) all) h.1 (some_at-under any_role (at_key l) (to_key p m.segment.key) all ∙ e))
reached-key (at_element i ∷ p) m all h e =
    reached-key p m (under (at_element i) all) h (some_at-under any_role (at_element i) (to_key p m.segment.key) all ∙ e)

pub reached-element : {S : Type 0} (p : Path) (i : ℕ) (all : List (Mention S)) → IsReached p all → IsReached (to_element p i) all
reached-element [] i all h = tt
reached-element (at_key l ∷ p) i all h = (h.0, reached-element p i (under (at_key l) all) h.1)
reached-element (at_element n ∷ p) i all h = reached-element p i (under (at_element n) all) h

reached-last : {S : Type 0} (p : Path) (count : ℕ) (all : List (Mention S)) → IsReached p all → IsReached (in_last count p) all
reached-last p zero all h = h
reached-last p (suc n) all h = reached-element p n all h

abbrev AreIn : {S : Type 0} → List (Mention S) → List (Mention S) → Type 0
AreIn {S} all ms = (m : Mention S) → Among m ms → Among m all

-- where a mention of a key at the end of a path is one of all
reached-mention : {S : Type 0} (p : Path) (m : Mention S) (all : List (Mention S)) → IsReached p all → Among m all → m.path
    ≡ to_key p m.segment.key
    → IsReached m.path all
reached-mention p m all h a e =
    subst (λ q. IsReached q all) (sym e) (reached-key p m all h (subst (λ q. some_at any_role q all ≡ true) e (among-some m all a)))

first-reached : {S : Type 0} (p : Path) (m n : Mention S) (all : List (Mention S)) → IsReached p all → Among n all → n.path
    ≡ to_key p n.segment.key → m ≡ n
    → IsReached m.path all
first-reached p m n all h a e is = subst (λ (x : Mention _). IsReached x.path all) (sym is) (reached-mention p n all h a e)

pub line-reached : {S : Type 0} (all : List (Mention S)) (source : S) (start : ℕ) (p : Path) (ss : List Segment) → IsReached p all
    → AreIn all (line_mentions source start p ss) → AreReachedIn all (line_mentions source start p ss)
line-reached all source start p [] h inside m a = elim a [ ]
line-reached all source start p (s ∷ []) h inside m (inl e) = first-reached p m _ all h (inside _ (inl refl)) refl e
line-reached all source start p (s ∷ []) h inside m (inr a) = elim a [ ]
line-reached all source start p (s ∷ r ∷ rest) h inside m (inl e) = first-reached p m _ all h (inside _ (inl refl)) refl e
line-reached all source start p (s ∷ r ∷ rest) h inside m (inr a) =
    line-reached all source (next_start start s) (to_key p s.key) (r ∷ rest) (reached-mention p _ all h (inside _ (inl refl)) refl)
    (λ n b. inside n (inr b)) m a

pub header-reached : {S : Type 0} (all : List (Mention S)) (source : S) (arrays : List Path) (role : Role) (start : ℕ) (p : Path)
    (ss : List Segment)
    → IsReached p all → AreIn all (header_mentions source arrays role start p ss)
    → AreReachedIn all (header_mentions source arrays role start p ss)
header-reached all source arrays role start p [] h inside m a = elim a [ ]
header-reached all source arrays role start p (s ∷ []) h inside m (inl e) = first-reached p m _ all h (inside _ (inl refl)) refl e
header-reached all source arrays role start p (s ∷ []) h inside m (inr a) = elim a [ ]
header-reached all source arrays role start p (s ∷ r ∷ rest) h inside m (inl e) = first-reached p m _ all h (inside _ (inl refl)) refl e
header-reached all source arrays role start p (s ∷ r ∷ rest) h inside m (inr a) =
    let here : Path = to_key p s.key in
    let count = elements_at arrays here in
    header-reached all source arrays role (next_start start s) (in_last count here) (r ∷ rest)
    (reached-last here count all (reached-mention p _ all h (inside _ (inl refl)) refl))
    (λ n b. inside n (inr b)) m a

-- so is the path of a header
path-reached : {S : Type 0} (all : List (Mention S)) (source : S) (arrays : List Path) (role : Role) (start : ℕ) (p : Path)
    (ss : List Segment)
    → IsReached p all → AreIn all (header_mentions source arrays role start p ss) → IsReached (header_path arrays p ss) all
path-reached all source arrays role start p [] h inside = h
path-reached all source arrays role start p (s ∷ []) h inside = reached-mention p _ all h (inside _ (inl refl)) refl
path-reached all source arrays role start p (s ∷ r ∷ rest) h inside =
    let here : Path = to_key p s.key in
    let count = elements_at arrays here in
    path-reached all source arrays role (next_start start s) (in_last count here) (r ∷ rest)
    (reached-last here count all (reached-mention p _ all h (inside _ (inl refl)) refl))
    (λ n b. inside n (inr b))

-- ---- roles and sources

line-headers : (source : Source) (start : ℕ) (p : Path) (ss : List Segment) → HaveHeaders (line_mentions source start p ss)
line-headers source start p ss m a is =
    elim (line-role source start p ss m a) [
      | inl e ↦ let clash : false ≡ true = sym (ap is_header_role e) ∙ is in absurd cc
      | inr e ↦ let clash : false ≡ true = sym (ap is_header_role e) ∙ is in absurd cc
    ]

-- two headers don't meet
two-headers : (r q : Role) → is_header_role r ≡ true → is_header_role q ≡ true → may_meet r q ≡ false
two-headers header_role header_role h g = refl
two-headers header_role q h g = absurd cc
two-headers r q h g = absurd cc

pub header-join : {S : Type 0} (xs ys : List (Mention S)) → HaveOneHeader xs → HaveOneHeader ys → agree may_meet xs ys ≡ true
    → HaveOneHeader (xs ++ ys)
header-join [] ys g h a = h
header-join {S} (m ∷ xs) ys g h a = (
  λ is.
      let here : some_at is_header_role m.path (m ∷ xs) ≡ true =
      ap (λ b. (b && is_header_role m.role) || some_at is_header_role m.path xs) (same_path-refl m.path)
      ∙ ap (λ b. b || some_at is_header_role m.path xs) is in
      some_at-append is_header_role m.path xs ys
      ∙ or_from (some_at is_header_role m.path xs) (some_at is_header_role m.path ys) (g.0 is)
      (agree-apart may_meet is_header_role is_header_role m.path (m ∷ xs) ys two-headers a here),
  header-join xs ys g.1 h (and_right (list_all (λ (n : Mention S). not (same_path m.path n.path) || may_meet m.role n.role) ys)
      (agree may_meet xs ys) a),
)

-- ---- one statement

statement-headers : (c : Context) (s : Statement) → HaveHeaders (mentions_of c s)
statement-headers c (key_line f v end) m a is =
    line-headers (source_of c (key_line f v end)) (c.start + path_start (key_line f v end)) c.block f.path m a is
statement-headers c (header h end) m a is =
    ap (λ (x : Source). is_header x.statement)
    (header-source (source_of c (header h end)) c.arrays (header_role_of h) (c.start + path_start (header h end)) [] h.path m a)

statement-reached : (c : Context) (s : Statement) (all : List (Mention Source)) → IsReached c.block all → AreIn all (mentions_of c s)
    → AreReachedIn all (mentions_of c s)
statement-reached c (key_line f v end) all h inside =
    line-reached all (source_of c (key_line f v end)) (c.start + path_start (key_line f v end)) c.block f.path h inside
statement-reached c (header h end) all block inside =
    header-reached all (source_of c (header h end)) c.arrays (header_role_of h) (c.start + path_start (header h end)) [] h.path tt inside

-- One statement more that agrees with those before it.
pub of_statement : (c : Context) (s : Statement) (ms : List (Mention Source)) → AreOfTable ms → IsReached c.block ms
    → agree may_meet ms (mentions_of c s) ≡ true → AreOfTable (ms ++ mentions_of c s)
of_statement c s ms are block h =
    let ns = mentions_of c s in
    record {
      named = all-append (λ (m : Mention Source). EndsIn m.segment.key m.path) ms ns are.named (statement-named c s);
      one_header = header-join ms ns are.one_header (statement-header c s) h;
      reached = λ m a.
          elim (among-cases m ms ns a) [
            | inl g ↦ reached-left m.path ms ns (are.reached m g)
            | inr g ↦ statement-reached c s (ms ++ ns) (reached-left c.block ms ns block) (λ n b. among-right n ms ns b) m g
          ];
      headers = λ m a.
          elim (among-cases m ms ns a) [
            | inl g ↦ are.headers m g
            | inr g ↦ statement-headers c s m g
          ];
    }

-- The block after it is reached.
pub block_after : (c : Context) (s : Statement) (ms : List (Mention Source)) → IsReached c.block ms
    → IsReached (context_after c s).block (ms ++ mentions_of c s)
block_after c (key_line f v end) ms h = reached-left c.block ms (mentions_of c (key_line f v end)) h
block_after c (header h end) ms block = by_array h.is_array
  where
    ns : List (Mention Source)
    ns = mentions_of c (header h end)

    path : Path
    path = header_path c.arrays [] h.path

    reached : IsReached path (ms ++ ns)
    reached =
        path-reached (ms ++ ns) (source_of c (header h end)) c.arrays (header_role_of h) (c.start + path_start (header h end)) [] h.path tt
        (λ n b. among-right n ms ns b)

    by_array : (b : Bool) → IsReached (if b then to_element path (elements_at c.arrays path) else path) (ms ++ ns)
    by_array true = reached-element path (elements_at c.arrays path) (ms ++ ns) reached
    by_array false = reached

-- The mentions of the statements before a context are those of a table, and the block of the context is reached.
pub record AreOfTableBefore (c : Context) (ms : List (Mention Source)) : Type 0 where
  pub table : AreOfTable ms
  pub block : IsReached c.block ms

pub table_start : (d : Document) → AreOfTableBefore (start_context d) []
table_start d = record { table = of_nothing; block = tt }

pub table_next : (c : Context) (s : Statement) (ms : List (Mention Source)) → AreOfTableBefore c ms → agree may_meet ms (mentions_of c s)
    ≡ true
    → AreOfTableBefore (context_after c s) (ms ++ mentions_of c s)
table_next c s ms are h = record { table = of_statement c s ms are.table are.block h; block = block_after c s ms are.block }

-- ---- all statements

of_places : (c : Context) (ss : List Statement) (earlier : List Placed) → AreOfTableBefore c (mentions_in earlier)
    → all_right_after earlier (placed_from c ss) ≡ true → AreOfTable (mentions_in earlier ++ mentions_in (placed_from c ss))
of_places c [] earlier are h = subst AreOfTable (sym (append-nil (mentions_in earlier))) are.table
of_places c (s ∷ ss) earlier are h =
    let here : Placed = record { source = source_of c s; mentions = mentions_of c s } in
    let later = placed_from (context_after c s) ss in
    let right = and_left (is_right_after earlier here) (all_right_after (earlier ++ one here) later) h in
    let rest = and_right (is_right_after earlier here) (all_right_after (earlier ++ one here) later) h in
    let all : mentions_in (earlier ++ one here) ≡ mentions_in earlier ++ mentions_of c s =
    flat_map-append (λ (x : Placed). x.mentions) earlier (one here) ∙ ap (λ ns. mentions_in earlier ++ ns) (append-nil (mentions_of c s)) in
    let next =
    of_places (context_after c s) ss (earlier ++ one here)
    (subst (AreOfTableBefore (context_after c s)) (sym all) (table_next c s (mentions_in earlier) are (right-agrees earlier here right)))
    rest in
    subst AreOfTable (ap (λ ms. ms ++ mentions_in later) all
    ∙ append_assoc (mentions_in earlier) (mentions_of c s) (mentions_in later)) next

-- What holds of the mentions that a table sees holds of those of an accepted document.
pub document_table : (d : Document) → is_accepted d ≡ true → AreOfTable (all_mentions d)
document_table d h = of_places (start_context d) d.statements [] (table_start d) (accepted-right d h)
