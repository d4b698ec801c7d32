-- In an accepted document no path has two plain headers.
use Rattle.std.proofs.Common.{◌≡◌, refl, sym, ◌∙◌, ap, ℕ, zero, suc, ◌+◌, Bool, true, false, List, [], ◌∷◌, ◌++◌, append_assoc}
use Rattle.std.specs.Prelude.{◌&&◌, ◌||◌, not, flat_map}
use Rattle.std.specs.List.{AllByRecursion, list_all}
use Rattle.std.proofs.lemmas.List.Folds.{list_all-append}
use Rattle.toml_edit_model.specs.Text.{one}
use Rattle.toml_edit_model.specs.Syntax.{Segment, Statement, key_line, header, Document}
use Rattle.toml_edit_model.specs.Paths.{Path, same_path, to_key, Mention, next_start, line_mentions, elements_at, in_last, passing_role}
use Rattle.toml_edit_model.specs.Paths.{header_mentions, header_role_of, path_start, Source, Placed, Context, source_of, mentions_of}
use Rattle.toml_edit_model.specs.Paths.{context_after, placed_from, start_context, all_mentions}
use Rattle.toml_edit_model.specs.Accepted.{agree, is_sound, is_accepted}
use Rattle.toml_edit_laws.specs.OneByOne.{is_right_after, all_right_after}
use Rattle.toml_edit_laws.proofs.common.Tests.{and_left, and_right}
use Rattle.toml_edit_laws.proofs.common.PathLaws.{same_path-swap}
use Rattle.toml_edit_laws.proofs.mentions.KeptOrder.{HaveOneHeader}
use Rattle.toml_edit_laws.proofs.mentions.SomeAt.{some_at-append}
use Rattle.toml_edit_laws.proofs.common.Each.{all-map}
use Rattle.toml_edit_laws.proofs.one_by_one.Together.{accepted-right}
use Rattle.toml_edit_model.specs.Roles.{Role, dotted_role, implied_role, header_role, array_role, value_role, continued_role, may_meet}
use Rattle.toml_edit_model.specs.Roles.{is_header_role}
use Rattle.toml_edit_model.specs.TableMentions.{some_at}

-- the headers of these mentions have no other header among those
abbrev HaveNoHeaderIn : {S : Type 0} → List (Mention S) → List (Mention S) → Type 0
HaveNoHeaderIn later ms = AllByRecursion (λ m. is_header_role m.role ≡ true → some_at is_header_role m.path later ≡ false) ms

header-append : {S : Type 0} (ms ns : List (Mention S)) → HaveOneHeader ms → HaveNoHeaderIn ns ms → HaveOneHeader ns
    → HaveOneHeader (ms ++ ns)
header-append [] ns h g k = k
header-append (m ∷ ms) ns h g k = (
  λ is. some_at-append is_header_role m.path ms ns ∙ ap (λ b. b || some_at is_header_role m.path ns) (h.0 is) ∙ g.0 is,
  header-append ms ns h.1 g.1 k,
)

-- ---- in one statement

pub line-header : {S : Type 0} (source : S) (start : ℕ) (p : Path) (ss : List Segment) → HaveOneHeader (line_mentions source start p ss)
line-header source start p [] = tt
line-header source start p (s ∷ []) = (λ is. refl, tt)
line-header source start p (s ∷ r ∷ rest) = (λ is. absurd cc, line-header source (next_start start s) (to_key p s.key) (r ∷ rest))

pub passing-role : (n : ℕ) → is_header_role (passing_role n) ≡ true → ⊥
passing-role zero h = cc
passing-role (suc n) h = cc

pub header-header : {S : Type 0} (source : S) (arrays : List Path) (role : Role) (start : ℕ) (p : Path) (ss : List Segment)
    → HaveOneHeader (header_mentions source arrays role start p ss)
header-header source arrays role start p [] = tt
header-header source arrays role start p (s ∷ []) = (λ is. refl, tt)
header-header source arrays role start p (s ∷ r ∷ rest) =
    let here : Path = to_key p s.key in (
      λ is. absurd (passing-role (elements_at arrays here) is),
      header-header source arrays role (next_start start s) (in_last (elements_at arrays here) here) (r ∷ rest),
    )

pub statement-header : (c : Context) (s : Statement) → HaveOneHeader (mentions_of c s)
statement-header c (key_line f v end) =
    line-header (source_of c (key_line f v end)) (c.start + path_start (key_line f v end)) c.block f.path
statement-header c (header h end) =
    header-header (source_of c (header h end)) c.arrays (header_role_of h) (c.start + path_start (header h end)) [] h.path

-- ---- in statements that agree

-- a header meets no other
meets-none : (a b : Role) → is_header_role a ≡ true → may_meet a b ≡ true → is_header_role b ≡ false
meets-none header_role header_role h g = absurd cc
meets-none header_role dotted_role h g = refl
meets-none header_role implied_role h g = refl
meets-none header_role array_role h g = refl
meets-none header_role value_role h g = refl
meets-none header_role continued_role h g = refl
meets-none dotted_role b h g = absurd cc
meets-none implied_role b h g = absurd cc
meets-none array_role b h g = absurd cc
meets-none value_role b h g = absurd cc
meets-none continued_role b h g = absurd cc

-- the mention meets none of these at its path that it may not meet
abbrev meets_all : {S : Type 0} → Mention S → List (Mention S) → Bool
meets_all m ns = list_all (λ n. not (same_path m.path n.path) || may_meet m.role n.role) ns

agree-one : {S : Type 0} (m : Mention S) (ns : List (Mention S)) → meets_all m ns ≡ true
    → is_header_role m.role ≡ true → some_at is_header_role m.path ns ≡ false
agree-one m [] h is = refl
agree-one {S = S} m (n ∷ ns) h is =
    by_path (same_path n.path m.path) (same_path-swap m.path n.path) (agree-one m ns (and_right test rest h) is)
  where
    test : Bool
    test = not (same_path m.path n.path) || may_meet m.role n.role

    rest : Bool
    rest = meets_all m ns

    by_path : (b : Bool) → same_path m.path n.path ≡ b → some_at is_header_role m.path ns ≡ false
        → ((b && is_header_role n.role) || some_at is_header_role m.path ns) ≡ false
    by_path false e ih = ih
    by_path true e ih =
        let meets : may_meet m.role n.role ≡ true = sym (ap (λ b. not b || may_meet m.role n.role) e) ∙ and_left test rest h in
        ap (λ b. b || some_at is_header_role m.path ns) (meets-none m.role n.role is meets) ∙ ih

-- a right statement agrees with each later one
agrees-later : (earlier more : List Placed) (e : Placed) (places : List Placed) → all_right_after (earlier ++ (e ∷ more)) places ≡ true
    → AllByRecursion (λ (s : Placed). agree may_meet e.mentions s.mentions ≡ true) places
agrees-later earlier more e [] h = tt
agrees-later earlier more e (s ∷ rest) h =
    let right : Bool = is_right_after (earlier ++ (e ∷ more)) s in
    let others : Bool = all_right_after ((earlier ++ (e ∷ more)) ++ one s) rest in
    let test : Placed → Bool = λ d. agree may_meet d.mentions s.mentions in
    let all : list_all test (earlier ++ (e ∷ more)) ≡ true =
    and_right (is_sound s.source.statement) (list_all test (earlier ++ (e ∷ more))) (and_left right others h) in
    let here : (test e && list_all test more) ≡ true =
    and_right (list_all test earlier) (test e && list_all test more) (sym (list_all-append test earlier (e ∷ more)) ∙ all) in (
      and_left (test e) (list_all test more) here,
      agrees-later earlier (more ++ one s) e rest
          (ap (λ d. all_right_after d rest) (sym (append_assoc earlier (e ∷ more) (one s))) ∙ and_right right others h),
    )

joined-one : (m : Mention Source) (places : List Placed) → AllByRecursion (λ s. meets_all m s.mentions ≡ true) places
    → is_header_role m.role ≡ true
    → some_at is_header_role m.path (flat_map (λ s. s.mentions) places) ≡ false
joined-one m [] h is = refl
joined-one m (s ∷ places) h is =
    some_at-append is_header_role m.path s.mentions (flat_map (λ (r : Placed). r.mentions) places)
    ∙ ap (λ b. b || some_at is_header_role m.path (flat_map (λ (r : Placed). r.mentions) places)) (agree-one m s.mentions h.0 is)
    ∙ joined-one m places h.1 is

joined-headers : (ms : List (Mention Source)) (places : List Placed) → AllByRecursion (λ s. agree may_meet ms s.mentions ≡ true) places
    → HaveNoHeaderIn (flat_map (λ s. s.mentions) places) ms
joined-headers [] places h = tt
joined-headers (m ∷ ms) places h = (
  λ is.
      joined-one m places
      (all-map (λ s. agree may_meet (m ∷ ms) s.mentions ≡ true) (λ s. meets_all m s.mentions ≡ true) places
      (λ s g. and_left (meets_all m s.mentions) (agree may_meet ms s.mentions) g) h) is,
  joined-headers ms places
      (all-map (λ s. agree may_meet (m ∷ ms) s.mentions ≡ true) (λ s. agree may_meet ms s.mentions ≡ true) places
      (λ s g. and_right (meets_all m s.mentions) (agree may_meet ms s.mentions) g) h),
)

placed-header : (c : Context) (ss : List Statement) (earlier : List Placed) → all_right_after earlier (placed_from c ss) ≡ true
    → HaveOneHeader (flat_map (λ (s : Placed). s.mentions) (placed_from c ss))
placed-header c [] earlier h = tt
placed-header c (s ∷ ss) earlier h =
    let here : Placed = record { source = source_of c s; mentions = mentions_of c s } in
    let later : List Placed = placed_from (context_after c s) ss in
    let rest : all_right_after (earlier ++ one here) later ≡ true =
    and_right (is_right_after earlier here) (all_right_after (earlier ++ one here) later) h in
    header-append (mentions_of c s) (flat_map (λ (r : Placed). r.mentions) later) (statement-header c s)
    (joined-headers (mentions_of c s) later (agrees-later earlier [] here later rest))
    (placed-header (context_after c s) ss (earlier ++ one here) rest)

-- No path of an accepted document has two plain headers.
pub document-header : (d : Document) → is_accepted d ≡ true → HaveOneHeader (all_mentions d)
document-header d h = placed-header (start_context d) d.statements [] (accepted-right d h)
