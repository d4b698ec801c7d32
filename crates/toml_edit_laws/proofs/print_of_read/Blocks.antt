-- The blocks of a document: where a value's key stands in the dotted tables of one, its line is of that block.
use Rattle.std.proofs.Common.{◌≡◌, refl, sym, ◌∙◌, ap, subst, ℕ, zero, suc, Bool, true, false, List, [], ◌∷◌, ◌++◌, append_assoc, Option}
use Rattle.std.proofs.Common.{Some, None, inl, inr}
use Rattle.std.specs.Prelude.{◌⊎◌, ◌&&◌, filter, ◌==◌}
use Rattle.std.proofs.lemmas.Bool.{eq-eqb}
use Rattle.std.proofs.lemmas.List.{map-append}
use Rattle.toml_edit_model.specs.Text.{Text, one}
use Rattle.toml_edit_model.specs.Paths.{Step, at_key, at_element, Path, same_path, to_key, to_element, Mention, Source}
use Rattle.toml_edit_model.specs.Normal.{is_line}
use Rattle.toml_edit_laws.proofs.common.Tests.{true-false, and_both}
use Rattle.toml_edit_laws.proofs.common.Members.{Among}
use Rattle.toml_edit_laws.proofs.mentions.KeptOrder.{HaveOneHeader}
use Rattle.toml_edit_laws.proofs.clashes.ClashMentions.{AreOfStatements, kinds-apart}
use Rattle.toml_edit_laws.proofs.mentions.GatheredLines.{steps}
use Rattle.toml_edit_laws.proofs.print_of_read.BlockLines.{IsWay}
use Rattle.toml_edit_laws.proofs.mentions.SomeAt.{among-test}
use Rattle.toml_edit_model.specs.Roles.{header_role, value_role, is_header_role, is_dotted_role, is_array_role}
use Rattle.toml_edit_model.specs.TableMentions.{some_at}

-- ---- paths

pub steps-more : (q r : List Text) → steps (q ++ r) ≡ steps q ++ steps r
steps-more q r = map-append at_key q r

pub no-path : (q : Path) (s : Step) → q ++ one s ≡ [] → ⊥
no-path [] s h = cc
no-path (t ∷ q) s h = cc

pub same-ends : (q r : Path) (s t : Step) → q ++ one s ≡ r ++ one t → (q ≡ r) × (s ≡ t)
same-ends [] [] s t h = (refl, cc)
same-ends [] (u ∷ r) s t h = absurd (no-path r t (let e : [] ≡ r ++ one t = cc in sym e))
same-ends (u ∷ q) [] s t h = absurd (no-path q s (let e : q ++ one s ≡ [] = cc in e))
same-ends (u ∷ q) (v ∷ r) s t h =
    let first : u ≡ v = cc in
    let rest : q ++ one s ≡ r ++ one t = cc in
    let both = same-ends q r s t rest in
    let tail : q ≡ r = both.0 in
    (cc, both.1)

pub same-keys : (q r : Path) (k l : Text) → to_key q k ≡ to_key r l → (q ≡ r) × (k ≡ l)
same-keys q r k l h =
    let both = same-ends q r (at_key k) (at_key l) h in
    let same : at_key k ≡ at_key l = both.1 in
    (both.0, cc)

pub same-elements : (q r : Path) (i j : ℕ) → to_element q i ≡ to_element r j → (q ≡ r) × (i ≡ j)
same-elements q r i j h =
    let both = same-ends q r (at_element i) (at_element j) h in
    let same : at_element i ≡ at_element j = both.1 in
    (both.0, cc)

pub no-element : (q r : Path) (k : Text) (i : ℕ) → to_key q k ≡ to_element r i → ⊥
no-element q r k i h =
    let both = same-ends q r (at_key k) (at_element i) h in
    let same : at_key k ≡ at_element i = both.1 in
    cc

-- keys at the end of a path end in one
pub keys-end : (q : Path) (k : Text) (w : List Text) → (r : Path) × (l : Text) × (q ++ steps (k ∷ w) ≡ to_key r l)
keys-end q k [] = (q, k, refl)
keys-end q k (l ∷ w) =
    let more = keys-end (to_key q k) l w in
    (more.0, more.1, sym (append_assoc q (one (at_key k)) (steps (l ∷ w))) ∙ more.2)

-- Where two paths go on with keys to one path, one goes on to the other.
pub data Compared (a b : Path) (v u : List Text) : Type 0 where
  same : a ≡ b → Compared a b v u
  longer : (k : Text) (w : List Text) → a ≡ b ++ steps (k ∷ w) → u ≡ (k ∷ w) ++ v → Compared a b v u
  shorter : (k : Text) (w : List Text) → b ≡ a ++ steps (k ∷ w) → v ≡ (k ∷ w) ++ u → Compared a b v u

from-start : (b : Path) (v u : List Text) → steps v ≡ b ++ steps u → (w : List Text) × (b ≡ steps w) × (v ≡ w ++ u)
from-start [] v u h = ([], refl, keys-same v u h)
  where
    keys-same : (v u : List Text) → steps v ≡ steps u → v ≡ u
    keys-same [] [] e = refl
    keys-same [] (x ∷ u) e = absurd cc
    keys-same (x ∷ v) [] e = absurd cc
    keys-same (x ∷ v) (y ∷ u) e =
        let first : at_key x ≡ at_key y = cc in
        let key : x ≡ y = cc in
        let rest : steps v ≡ steps u = cc in
        let tail : v ≡ u = keys-same v u rest in
        cc
from-start (s ∷ b) [] u h = absurd cc
from-start (s ∷ b) (k ∷ v) u h =
    let rest : steps v ≡ b ++ steps u = cc in
    let first : s ≡ at_key k = cc in
    let more = from-start b v u rest in
    (k ∷ more.0, ap (λ t. t ∷ b) first ∙ ap (λ q. at_key k ∷ q) more.1, ap (λ t. k ∷ t) more.2)

by-keys : (a b : Path) (v u : List Text) → (w : List Text) × (b ≡ a ++ steps w) × (v ≡ w ++ u) → Compared a b v u
by-keys a b v u ([], e, g) = same (sym (e ∙ append-none a))
  where
    append-none : (q : Path) → q ++ [] ≡ q
    append-none [] = refl
    append-none (s ∷ q) = ap (λ r. s ∷ r) (append-none q)
by-keys a b v u (k ∷ w, e, g) = shorter k w e g

pub compare : (a b : Path) (v u : List Text) → a ++ steps v ≡ b ++ steps u → Compared a b v u
compare [] b v u h = by-keys [] b v u (from-start b v u h)
compare (s ∷ a) [] v u h = turned (from-start (s ∷ a) u v (sym h))
  where
    turned : (w : List Text) × (s ∷ a ≡ steps w) × (u ≡ w ++ v) → Compared (s ∷ a) [] v u
    turned ([], e, g) = same e
    turned (k ∷ w, e, g) = longer k w e g
compare (s ∷ a) (t ∷ b) v u h =
    let first : s ≡ t = cc in
    let rest : a ++ steps v ≡ b ++ steps u = cc in
    deeper first (compare a b v u rest)
  where
    deeper : s ≡ t → Compared a b v u → Compared (s ∷ a) (t ∷ b) v u
    deeper first (same e) = same (ap (λ q. s ∷ q) e ∙ ap (λ x. x ∷ b) first)
    deeper first (longer k w e g) = longer k w (ap (λ q. s ∷ q) e ∙ ap (λ x. x ∷ (b ++ steps (k ∷ w))) first) g
    deeper first (shorter k w e g) = shorter k w (ap (λ q. t ∷ q) e ∙ ap (λ x. x ∷ (a ++ steps (k ∷ w))) (sym first)) g

-- ---- dotted keys

-- a dotted key stands at each of these keys below a path
abbrev pub AreDotted : List (Mention Source) → Path → List Text → Type 0
AreDotted all p [] = Unit {0}
AreDotted all p (k ∷ ks) = (some_at is_dotted_role (to_key p k) all ≡ true) × AreDotted all (to_key p k) ks

-- one more
pub dotted-more : (all : List (Mention Source)) (p : Path) (ks : List Text) (k : Text) → AreDotted all p ks
    → some_at is_dotted_role (to_key (p ++ steps ks) k) all ≡ true
    → AreDotted all p (ks ++ one k)
dotted-more all p [] k h e = (subst (λ q. some_at is_dotted_role (to_key q k) all ≡ true) (append-none p) e, tt)
  where
    append-none : (q : Path) → q ++ [] ≡ q
    append-none [] = refl
    append-none (s ∷ q) = ap (λ r. s ∷ r) (append-none q)
dotted-more all p (l ∷ ks) k h e = (
  h.0,
  dotted-more all (to_key p l) ks k h.1 (subst (λ q. some_at is_dotted_role (to_key q k) all
      ≡ true) (sym (append_assoc p (one (at_key l)) (steps ks))) e),
)

-- one stands at each part of them
pub dotted-part : (all : List (Mention Source)) (p : Path) (k : Text) (w v : List Text) → AreDotted all p ((k ∷ w) ++ v)
    → some_at is_dotted_role (p ++ steps (k ∷ w)) all ≡ true
dotted-part all p k [] v h = h.0
dotted-part all p k (l ∷ w) v h =
    subst (λ q. some_at is_dotted_role q all ≡ true) (append_assoc p (one (at_key k)) (steps (l ∷ w)))
    (dotted-part all (to_key p k) l w v h.1)

-- ---- blocks

-- the element of a list at a place
abbrev pub nth : {A : Type 0} → ℕ → List A → Option A
nth i [] = None
nth zero (x ∷ xs) = Some x
nth (suc i) (x ∷ xs) = nth i xs

-- the headers in double brackets of a path
abbrev pub arrays_at : {S : Type 0} → Path → List (Mention S) → List (Mention S)
arrays_at p ms = filter (λ m. same_path m.path p && is_array_role m.role) ms

-- The block of a path has this number: the root's has 0, and a header's its own.
pub data IsBlock (all : List (Mention Source)) (b : Path) (j : ℕ) : Type 0 where
  of_root : b ≡ [] → j ≡ 0 → IsBlock all b j
  of_table : (m : Mention Source) (q : Path) (k : Text) → Among m all → m.role ≡ header_role → m.path ≡ b → b ≡ to_key q k
      → m.source.headers ≡ j → IsBlock all b j
  of_element : (m : Mention Source) (h : Path) (i : ℕ) → nth i (arrays_at h all) ≡ Some m → b ≡ to_element h i → m.source.headers ≡ j
      → IsBlock all b j

-- a path has one plain header
pub one-header : {S : Type 0} (ms : List (Mention S)) (m n : Mention S) → HaveOneHeader ms → Among m ms → Among n ms → m.path ≡ n.path
    → is_header_role m.role ≡ true → is_header_role n.role ≡ true → m ≡ n
one-header [] m n h a b path e f = elim a [ ]
one-header (x ∷ ms) m n h (inl g) (inl i) path e f = g ∙ sym i
one-header {S = S} (x ∷ ms) m n h (inl g) (inr i) path e f =
    true-false (some_at is_header_role m.path ms)
    (subst (λ p. some_at is_header_role p ms ≡ true) (sym path) (among-test is_header_role n ms i f))
    (subst (λ (y : Mention S). some_at is_header_role y.path ms
    ≡ false) (sym g) (h.0 (subst (λ (y : Mention S). is_header_role y.role ≡ true) g e)))
one-header {S = S} (x ∷ ms) m n h (inr a) (inl i) path e f =
    true-false (some_at is_header_role n.path ms)
    (subst (λ p. some_at is_header_role p ms ≡ true) path (among-test is_header_role m ms a e))
    (subst (λ (y : Mention S). some_at is_header_role y.path ms
    ≡ false) (sym i) (h.0 (subst (λ (y : Mention S). is_header_role y.role ≡ true) i f)))
one-header (x ∷ ms) m n h (inr a) (inr i) path e f = one-header ms m n h.1 a i path e f

-- a path is of one block
pub one-block : (all : List (Mention Source)) (b : Path) (i j : ℕ) → HaveOneHeader all → IsBlock all b i → IsBlock all b j → i ≡ j
one-block all b i j h (of_root e f) (of_root g k) = f ∙ sym k
one-block all b i j h (of_root e f) (of_table m q k a r p ends n) = absurd (no-path q (at_key k) (sym ends ∙ e))
one-block all b i j h (of_root e f) (of_element m q k a ends n) = absurd (no-path q (at_element k) (sym ends ∙ e))
one-block all b i j h (of_table m q k a r p ends n) (of_root e f) = absurd (no-path q (at_key k) (sym ends ∙ e))
one-block all b i j h (of_table m q k a r p ends n) (of_table o u l c s t more g) =
    let same : m ≡ o = one-header all m o h a c (p ∙ sym t) (ap is_header_role r) (ap is_header_role s) in
    sym n ∙ ap (λ (x : Mention Source). x.source.headers) same ∙ g
one-block all b i j h (of_table m q k a r p ends n) (of_element o u l c more g) = absurd (no-element q u k l (sym ends ∙ more))
one-block all b i j h (of_element m q k a ends n) (of_root e f) = absurd (no-path q (at_element k) (sym ends ∙ e))
one-block all b i j h (of_element m q k a ends n) (of_table o u l c s t more g) = absurd (no-element u q l k (sym more ∙ ends))
one-block all b i j h (of_element m q k a ends n) (of_element o u l c more g) =
    let both = same-elements q u k l (sym ends ∙ more) in
    let found : Some m ≡ Some o = sym a ∙ ap (λ x. nth x (arrays_at q all)) both.1 ∙ ap (λ x. nth l (arrays_at x all)) both.0 ∙ c in
    let same : m ≡ o = cc in
    sym n ∙ ap (λ (x : Mention Source). x.source.headers) same ∙ g

-- a block whose path ends in a key has a plain header
pub block-header : (all : List (Mention Source)) (b q : Path) (k : Text) (j : ℕ) → IsBlock all b j → b ≡ to_key q k
    → some_at is_header_role b all ≡ true
block-header all b q k j (of_root e f) ends = absurd (no-path q (at_key k) (sym ends ∙ e))
block-header all b q k j (of_table m u l a r p more n) ends =
    subst (λ x. some_at is_header_role x all ≡ true) p (among-test is_header_role m all a (ap is_header_role r))
block-header all b q k j (of_element m h i a more n) ends = absurd (no-element q h k i (sym ends ∙ more))

-- the line of a value: its block, and the keys to it
pub record IsLineOf (all : List (Mention Source)) (m : Mention Source) : Type 0 where
  pub block : Path
  pub keys : List Text
  pub last : Text
  pub is_line : is_line m.source.statement ≡ true
  pub opened : IsBlock all block m.source.headers
  pub path : m.path ≡ to_key (block ++ steps keys) last
  pub dotted : AreDotted all block keys

-- each value's key ends a line
abbrev pub HaveLines : List (Mention Source) → Type 0
HaveLines all = (m : Mention Source) → Among m all → m.role ≡ value_role → IsLineOf all m

-- the path goes on with dotted keys from that of the table
abbrev pub IsDown : List (Mention Source) → Path → Path → Type 0
IsDown all c p = (vs : List Text) × (p ≡ c ++ steps vs) × AreDotted all c vs

pub way-down : (all : List (Mention Source)) (c p : Path) (k : Text) → IsDown all c p → some_at is_dotted_role (to_key p k) all ≡ true
    → IsDown all c (to_key p k)
way-down all c p k h e = (
  h.0 ++ one k,
  ap (λ q. to_key q k) h.1 ∙ append_assoc c (steps h.0) (one (at_key k)) ∙ ap (λ q. c ++ q) (sym (steps-more h.0 (one k))),
  dotted-more all c h.0 k h.2 (subst (λ q. some_at is_dotted_role (to_key q k) all ≡ true) h.1 e),
)

-- A value's key below a table by dotted keys alone: it is of the block of that path, or the table itself is dotted.
pub line-meets : (all : List (Mention Source)) (c p : Path) (k : Text) (m : Mention Source) → AreOfStatements all → IsDown all c p
    → (line : IsLineOf all m)
    → m.path ≡ to_key p k → (c ≡ line.block) ⊎ ((some_at is_dotted_role c all ≡ true) × ((q : Path) × (l : Text) × (c ≡ to_key q l)))
line-meets all c p k m are down line path =
    by_case
    (compare c line.block down.0 line.keys
    (sym down.1 ∙ (same-keys p (line.block ++ steps line.keys) k line.last (sym path ∙ line.path)).0))
  where
    by_case : Compared c line.block down.0 line.keys → (c ≡ line.block)
        ⊎ ((some_at is_dotted_role c all ≡ true) × ((q : Path) × (l : Text) × (c ≡ to_key q l)))
    by_case (same e) = inl e
    by_case (longer l w e g) =
        let dot = dotted-part all line.block l w down.0 (subst (AreDotted all line.block) g line.dotted) in
        let end = keys-end line.block l w in
        inr (subst (λ q. some_at is_dotted_role q all ≡ true) (sym e) dot, (end.0, end.1, e ∙ end.2))
    by_case (shorter l w e g) =
        let dot = dotted-part all c l w line.keys (subst (AreDotted all c) g down.2) in
        let end = keys-end c l w in
        let head = block-header all line.block end.0 end.1 m.source.headers line.opened (e ∙ end.2) in
        true-false (some_at is_header_role line.block all) head
        (kinds-apart is_dotted_role is_header_role line.block all refl are.meeting (subst (λ q. some_at is_dotted_role q all
        ≡ true) (sym e) dot))

-- the lines of the block with a number
abbrev pub is_of : ℕ → Source → Bool
is_of j s = is_line s.statement && (s.headers == j)

-- So the values below a block by dotted keys are of its lines.
pub block-way : (all : List (Mention Source)) (b : Path) (j : ℕ) → AreOfStatements all → HaveOneHeader all → HaveLines all → IsBlock all b j
    → IsWay all (is_of j) (IsDown all b)
block-way all b j are one_header lines block =
    record {
      down = λ p k h e. way-down all b p k h e;
      owns = λ p k m way a role path.
          let line = lines m a role in
          elim (line-meets all b p k m are way line path) [
            | inl e ↦
                let same : m.source.headers ≡ j =
                one-block all b m.source.headers j one_header (subst (λ q. IsBlock all q m.source.headers) (sym e) line.opened) block in
                and_both (is_line m.source.statement) (m.source.headers == j) line.is_line (eq-eqb m.source.headers j same)
            | inr d ↦
                true-false (some_at is_header_role b all) (block-header all b d.1.0 d.1.1 j block d.1.2)
                (kinds-apart is_dotted_role is_header_role b all refl are.meeting d.0)
          ];
    }

-- Below a table with no header and no dotted key there are none.
pub no-way : (all : List (Mention Source)) (c q : Path) (k : Text) → AreOfStatements all → HaveLines all → c ≡ to_key q k
    → some_at is_header_role c all ≡ false → some_at is_dotted_role c all ≡ false → IsWay all (λ s. false) (IsDown all c)
no-way all c q k are lines ends no_header no_dot =
    record {
      down = λ p l h e. way-down all c p l h e;
      owns = λ p l m way a role path.
          let line = lines m a role in
          elim (line-meets all c p l m are way line path) [
            | inl e ↦
                true-false (some_at is_header_role c all)
                (block-header all c q k m.source.headers (subst (λ x. IsBlock all x m.source.headers) (sym e) line.opened) ends) no_header
            | inr d ↦ true-false (some_at is_dotted_role c all) d.0 no_dot
          ];
    }
