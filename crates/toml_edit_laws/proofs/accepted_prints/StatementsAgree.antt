-- Every two printed statements of a tree that fits agree.
use Rattle.std.proofs.Common.{◌≡◌, refl, sym, ◌∙◌, ap, subst, suc, ◌+◌, arith, Bool, true, false, List, [], ◌∷◌, ◌++◌, length}
use Rattle.std.proofs.Common.{length-append, ◌⊎◌, inl, inr}
use Rattle.std.specs.Prelude.{◌&&◌, map, if◌then◌else◌}
use Rattle.std.specs.List.{list_all, AllByRecursion}
use Rattle.toml_edit_model.specs.Mode.{Mode}
use Rattle.toml_edit_model.specs.Text.{Text, is_empty}
use Rattle.toml_edit_model.specs.Syntax.{Statement, key_line, header, keeps_limits, is_ranged, without_newline}
use Rattle.toml_edit_model.specs.Paths.{at_key, Path, Mention, Source, Context, start_context, source_of, mentions_of, context_after}
use Rattle.toml_edit_model.specs.Paths.{placed_from, header_role_of, path_start}
use Rattle.toml_edit_model.specs.Paths as paths
use Rattle.toml_edit_model.specs.Accepted.{agree, has_agreeing_pairs, has_agreeing_tables, is_sound}
use Rattle.toml_edit_laws.specs.OneByOne.{is_right_after, all_right_after}
use Rattle.toml_edit_laws.proofs.one_by_one.Together.{right-accepted}
use Rattle.toml_edit_model.specs.Tree.{Key, Tree}
use Rattle.toml_edit_model.specs.HeaderOrder.{Visit, PlacedVisit, walk, in_header_order}
use Rattle.toml_edit_model.specs.Print.{Line, lines_of, line_statement, has_header, below, Printed, printed_line, printed_header}
use Rattle.toml_edit_model.specs.Print.{printed_table, printed_tables, printed, root_prefix, document_in, header_statement, open_last}
use Rattle.toml_edit_model.specs.Print.{written}
use Rattle.toml_edit_laws.specs.AcceptedPrints.{IsFitting, PrintAgrees}
use Rattle.toml_edit_laws.proofs.common.Tests.{and_left, and_right, and_both, append-nil}
use Rattle.toml_edit_laws.proofs.accepted_prints.PrintedCut.{IsLineOf, table_lines-are, IsVisit, slots_walk-is, order-all, print-cut}
use Rattle.toml_edit_laws.proofs.accepted_prints.Spots.{Spot, valued, suiting-meet, tree_spot}
use Rattle.toml_edit_laws.proofs.accepted_prints.WalkPlaces.{walk-at}
use Rattle.toml_edit_laws.proofs.accepted_prints.WalkPaths.{Apart}
use Rattle.toml_edit_laws.proofs.accepted_prints.HeaderNumbers.{tree_at, order-apart}
use Rattle.toml_edit_laws.proofs.accepted_prints.NamedPaths.{down-append, below-down, line-told, header-told}
use Rattle.toml_edit_laws.proofs.accepted_prints.LinePlaces.{LineAt, PartedLines, table-at, table-parted}
use Rattle.toml_edit_laws.proofs.accepted_prints.Threads.{told_of, Threads, OwnOf, Says, StandsIn}
use Rattle.toml_edit_laws.proofs.accepted_prints.PairsAgree.{parted-front, agree-by, value-agrees}
use Rattle.toml_edit_laws.proofs.accepted_prints.PrintedLead.{prefixed, lead, printed-threads, threads-next, printed-statements, written-by}
use Rattle.toml_edit_laws.proofs.common.Cores.{core}
use Rattle.toml_edit_laws.proofs.common.PathLaws.{same-after}
use Rattle.toml_edit_laws.proofs.common.Pairs.{AllPairs, pairs-append, pairs-image, pairs-map}
use Rattle.toml_edit_laws.proofs.common.Each.{all-both, all-append, all-map, all-image}
use Rattle.toml_edit_model.specs.Roles.{Role, header_role, value_role, may_meet}
use Rattle.toml_edit_model.specs.Normal.{is_line}
use Rattle.toml_edit_model.specs.Keys.{names}

-- ---- paths

same-front : (xs ys us ws : Path) → xs ++ us ≡ ys ++ ws → length us ≡ length ws → xs ≡ ys
same-front [] [] us ws e n = refl
same-front [] (y ∷ ys) us ws e n = absurd (omega (arith, n, ap length e, length-append (y ∷ ys) ws))
same-front (x ∷ xs) [] us ws e n = absurd (omega (arith, n, ap length e, length-append (x ∷ xs) us))
same-front (x ∷ xs) (y ∷ ys) us ws e n =
    let first : x ≡ y = cc in
    let rest : xs ++ us ≡ ys ++ ws = cc in
    let more : xs ≡ ys = same-front xs ys us ws rest n in
    cc

below-append : (p : Path) (ks : List Key) → below p ks ≡ p ++ map at_key (names ks)
below-append p ks = below-down p ks ∙ down-append p (names ks)

keys-length : (ks : List Key) → length (map at_key (names ks)) ≡ length ks
keys-length [] = refl
keys-length (k ∷ ks) = ap suc (keys-length ks)

-- ---- no two statements are of one table's header, or of one value

abbrev pub Unlike : Printed → Printed → Type 0
Unlike p q = p.path ≡ q.path → is_line p.statement ≡ is_line q.statement → ⊥

-- the same with a text before the first
prefixed-kind : (t : Text) (s : Statement) → is_line (prefixed t s) ≡ is_line s
prefixed-kind t (key_line f v end) = refl
prefixed-kind t (header h end) = refl

lead-unlike : (t : Text) (ps : List Printed) → AllPairs Unlike ps → AllPairs Unlike (lead t ps)
lead-unlike t [] h = tt
lead-unlike t (p ∷ ps) h = (
  all-map (Unlike p) (λ q. p.path ≡ q.path → is_line (prefixed t p.statement) ≡ is_line q.statement
      → ⊥) ps (λ q u e k. u e (sym (prefixed-kind t p.statement) ∙ k)) h.0,
  h.1,
)

-- the mentions of a statement say what it says by the arrays and the block of its context
mentions-told : (c : Context) (s : Statement) → map core (mentions_of c s) ≡ told_of c.arrays c.block s
mentions-told c (key_line f v end) = line-told (source_of c (key_line f v end)) (c.start + path_start (key_line f v end)) c.block f.path
mentions-told c (header h end) =
    header-told (source_of c (header h end)) c.arrays (header_role_of h) (c.start + path_start (header h end)) [] h.path

lead-pairs : (t : Text) (ps : List Printed) → AllByRecursion (λ (p : Printed). has_agreeing_tables p.statement ≡ true) ps
    → AllByRecursion (λ (p : Printed). has_agreeing_tables p.statement ≡ true) (lead t ps)
lead-pairs t [] h = tt
lead-pairs t (p ∷ ps) h = (first p.statement h.0, h.1)
  where
    first : (s : Statement) → has_agreeing_tables s ≡ true → has_agreeing_tables (prefixed t s) ≡ true
    first (key_line f v end) g = g
    first (header k end) g = g

all-sound : (ps : List Printed) → list_all (λ s. keeps_limits s && is_ranged s) (map (λ (p : Printed). p.statement) ps) ≡ true
    → AllByRecursion (λ (p : Printed). has_agreeing_tables p.statement ≡ true) ps
    → AllByRecursion (λ (p : Printed). is_sound p.statement ≡ true) ps
all-sound [] h g = tt
all-sound (p ∷ ps) h g =
    let keeps = keeps_limits p.statement && is_ranged p.statement in
    let rest = list_all (λ s. keeps_limits s && is_ranged s) (map (λ (p : Printed). p.statement) ps) in
    (and_both keeps (has_agreeing_tables p.statement) (and_left keeps rest h) g.0, all-sound ps (and_right keeps rest h) g.1)

-- ---- an open end

open-kind : (s : Statement) → is_line (without_newline s) ≡ is_line s
open-kind (key_line f v end) = refl
open-kind (header h end) = refl

open-last-unlike : (p : Printed) (ps : List Printed) → AllByRecursion (Unlike p) ps → AllByRecursion (Unlike p) (open_last ps)
open-last-unlike p [] h = tt
open-last-unlike p (q ∷ []) h = ((λ e k. h.0 e (k ∙ open-kind q.statement)), tt)
open-last-unlike p (q ∷ r ∷ ps) h = (h.0, open-last-unlike p (r ∷ ps) h.1)

open-unlike : (ps : List Printed) → AllPairs Unlike ps → AllPairs Unlike (open_last ps)
open-unlike [] h = tt
open-unlike (p ∷ []) h = (tt, tt)
open-unlike (p ∷ q ∷ ps) h = (open-last-unlike p (q ∷ ps) h.0, open-unlike (q ∷ ps) h.1)

open-agreeing : (ps : List Printed) → AllByRecursion (λ (p : Printed). has_agreeing_tables p.statement ≡ true) ps
    → AllByRecursion (λ (p : Printed). has_agreeing_tables p.statement ≡ true) (open_last ps)
open-agreeing [] h = tt
open-agreeing (p ∷ []) h = (last p.statement h.0, tt)
  where
    last : (s : Statement) → has_agreeing_tables s ≡ true → has_agreeing_tables (without_newline s) ≡ true
    last (key_line f v end) g = g
    last (header k end) g = g
open-agreeing (p ∷ q ∷ ps) h = (h.0, open-agreeing (q ∷ ps) h.1)

module _ (mode : Mode) where
  module _ (K : Path → Spot) where
    -- the header of the table, or a line of it
    abbrev PrintedOf : Visit → Printed → Type 0
    PrintedOf v p =
        ((p.path ≡ v.path) × (is_line p.statement ≡ false))
        ⊎ ((l : Line) × LineAt mode K v.path l × (p.path ≡ below v.path l.keys) × (is_line p.statement ≡ true))

    lines-unlike : (v w : Visit) (l m : Line) → Apart v w → LineAt mode K v.path l → LineAt mode K w.path m → below v.path l.keys
        ≡ below w.path m.keys → ⊥
    lines-unlike v w l m apart at bt e =
        let same : valued (length l.keys) ≡ valued (length m.keys) = sym at.value ∙ ap K e ∙ bt.value in
        let size : length l.keys ≡ length m.keys = cc in
        apart (same-front v.path w.path (map at_key (names l.keys)) (map at_key (names m.keys)) (sym (below-append v.path l.keys) ∙ e
        ∙ below-append w.path m.keys)
        (keys-length l.keys ∙ size ∙ sym (keys-length m.keys)))

    tables-unlike : (v w : Visit) → Apart v w → (p q : Printed) → PrintedOf v p → PrintedOf w q → Unlike p q
    tables-unlike v w apart p q (inl h) (inl g) e k = apart (sym h.0 ∙ e ∙ g.0)
    tables-unlike v w apart p q (inl h) (inr g) e k = (let clash : false ≡ true = sym h.1 ∙ k ∙ g.3 in cc)
    tables-unlike v w apart p q (inr h) (inl g) e k = (let clash : true ≡ false = sym h.3 ∙ k ∙ g.1 in cc)
    tables-unlike v w apart p q (inr h) (inr g) e k = lines-unlike v w h.0 g.0 apart h.1 g.1 (sym h.2 ∙ e ∙ g.2)

    header-of : (f : Bool) (v : Visit) (c : Bool)
        → AllByRecursion (λ (p : Printed). (p.path ≡ v.path) × (is_line p.statement ≡ false)) (if c
        then record { block = v.path; path = v.path; statement = header_statement mode f v } ∷ [] else [])
    header-of f v true = ((refl, refl), tt)
    header-of f v false = tt

    header-pairs : (R : Printed → Printed → Type 0) (f : Bool) (v : Visit) (c : Bool)
        → AllPairs R (if c then record { block = v.path; path = v.path; statement = header_statement mode f v } ∷ [] else [])
    header-pairs R f v true = (tt, tt)
    header-pairs R f v false = tt

    table-of : (f : Bool) (v : Visit) → AllByRecursion (LineAt mode K v.path) (lines_of mode v)
        → AllByRecursion (PrintedOf v) (printed_table mode f v)
    table-of f v h =
        all-append (PrintedOf v) (printed_header mode f v) (map (printed_line mode v.path) (lines_of mode v))
        (all-map (λ (p : Printed). (p.path ≡ v.path) × (is_line p.statement ≡ false)) (PrintedOf v) (printed_header mode f v)
        (λ p g. inl g) (header-of f v (has_header mode v)))
        (all-image (printed_line mode v.path) (PrintedOf v) (lines_of mode v)
        (all-map (LineAt mode K v.path) (λ l. PrintedOf v (printed_line mode v.path l)) (lines_of mode v) (λ l g. inr (l, g, refl, refl))
        h))

    line-line : (v : Visit) (l m : Line) → PartedLines l m → Unlike (printed_line mode v.path l) (printed_line mode v.path m)
    line-line v l m h e k =
        let same : map at_key (names l.keys) ≡ map at_key (names m.keys) =
        same-after v.path (map at_key (names l.keys)) (map at_key (names m.keys)) (sym (below-append v.path l.keys) ∙ e
        ∙ below-append v.path m.keys) in
        parted-front (names l.keys) (names m.keys) [] h (sym same ∙ sym (append-nil (map at_key (names l.keys))))

    all-across : (xs ys : List Printed) → AllByRecursion (λ (p : Printed). is_line p.statement ≡ false) xs
        → AllByRecursion (λ (p : Printed). is_line p.statement ≡ true) ys
        → AllByRecursion (λ p. AllByRecursion (Unlike p) ys) xs
    all-across [] ys h g = tt
    all-across (x ∷ xs) ys h g = (
      all-map (λ (p : Printed). is_line p.statement
          ≡ true) (Unlike x) ys (λ y k e f. (let clash : false ≡ true = sym h.0 ∙ f ∙ k in cc)) g,
      all-across xs ys h.1 g,
    )

    all-lines : (v : Visit) (ls : List Line) → AllByRecursion (λ l. is_line (printed_line mode v.path l).statement ≡ true) ls
    all-lines v [] = tt
    all-lines v (l ∷ ls) = (refl, all-lines v ls)

    table-unlike : (f : Bool) (v : Visit) → IsVisit v → AllPairs Unlike (printed_table mode f v)
    table-unlike f v is =
        pairs-append Unlike (printed_header mode f v) (map (printed_line mode v.path) (lines_of mode v))
        (header-pairs Unlike f v (has_header mode v))
        (pairs-image (printed_line mode v.path) Unlike (lines_of mode v)
        (pairs-map PartedLines (λ l m. Unlike (printed_line mode v.path l) (printed_line mode v.path m)) (lines_of mode v) (line-line v)
        (table-parted mode v.slots [] is.made)))
        (all-across (printed_header mode f v) (map (printed_line mode v.path) (lines_of mode v))
        (all-map (λ (p : Printed). (p.path ≡ v.path) × (is_line p.statement ≡ false)) (λ (p : Printed). is_line p.statement
        ≡ false) (printed_header mode f v) (λ p g. g.1) (header-of f v (has_header mode v)))
        (all-image (printed_line mode v.path) (λ (p : Printed). is_line p.statement
        ≡ true) (lines_of mode v) (all-lines v (lines_of mode v))))

    abbrev Faces : PlacedVisit → Type 0
    Faces v = AllByRecursion (LineAt mode K v.1.path) (lines_of mode v.1) × IsVisit v.1

    tables-of : (Q : Printed → Type 0) (f : Bool) (vs : List PlacedVisit) → AllByRecursion Faces vs
        → AllByRecursion (λ (w : PlacedVisit). (q : Printed) → PrintedOf w.1 q → Q q) vs
        → AllByRecursion Q (printed_tables mode f vs)
    tables-of Q f [] h g = tt
    tables-of Q f (v ∷ vs) h g =
        all-append Q (printed_table mode f v.1) _ (all-map (PrintedOf v.1) Q (printed_table mode f v.1) g.0 (table-of f v.1 h.0.0))
        (tables-of Q (f && is_empty (printed_table mode f v.1)) vs h.1 g.1)

    all-unlike : (f : Bool) (vs : List PlacedVisit) → AllByRecursion Faces vs → AllPairs (λ (v w : PlacedVisit). Apart v.1 w.1) vs
        → AllPairs Unlike (printed_tables mode f vs)
    all-unlike f [] h g = tt
    all-unlike f (v ∷ vs) h g =
        let more = f && is_empty (printed_table mode f v.1) in
        pairs-append Unlike (printed_table mode f v.1) (printed_tables mode more vs) (table-unlike f v.1 h.0.1) (all-unlike more vs h.1 g.1)
        (all-map (PrintedOf v.1) (λ p. AllByRecursion (Unlike p) (printed_tables mode more vs)) (printed_table mode f v.1)
        (λ p of. tables-of (Unlike p) more vs h.1
        (all-map (λ (w : PlacedVisit). Apart v.1 w.1) (λ (w : PlacedVisit). (q : Printed) → PrintedOf w.1 q
        → Unlike p q) vs (λ w apart q og. tables-unlike v.1 w.1 apart p q of og) g.0))
        (table-of f v.1 h.0.0))

  -- No two printed statements are of one table's header, or of one value.
  pub printed-unlike : (t : Tree) → IsFitting mode t → AllPairs Unlike (printed mode t)
  printed-unlike t fitting =
      all-unlike (tree_spot t.slots) true (in_header_order t)
      (all-map (λ (v : PlacedVisit). (tree_at t v.1 × IsVisit v.1)
      × (v.1.fields.is_dotted ≡ false)) (Faces (tree_spot t.slots)) (in_header_order t)
      (λ v h. (table-at mode (tree_spot t.slots) v.1.slots v.1.path [] h.0.1.made tt (h.0.0.sees h.1), h.0.1))
      (order-all (λ v. tree_at t v × IsVisit v) t
      (all-both (tree_at t) IsVisit (walk t) (walk-at t fitting.made) (
        record { keys = tt; made = fitting.made },
        slots_walk-is t.slots [] [] fitting.made tt,
      ))))
      (order-apart t fitting.made)

  -- ---- two statements

  -- what two statements that are not alike say may meet
  says-meet : (K : Path → Spot) (p q : Printed) → Unlike p q → (path : Path) (r s : Role) → Says mode K p (path, r)
      → Says mode K q (path, s) → may_meet r s ≡ true
  says-meet K p q unlike path r s h g =
      elim (suiting-meet (K path) r s h.0 g.0) [
        | inl meet ↦ meet
        | inr (inl both) ↦ absurd (headers (subst (OwnOf p path) both.0 h.1) (subst (OwnOf q path) both.1 g.1))
        | inr (inr both) ↦ absurd (values (subst (OwnOf p path) both.0 h.1) (subst (OwnOf q path) both.1 g.1))
      ]
    where
      headers : OwnOf p path header_role → OwnOf q path header_role → ⊥
      headers a b = unlike (sym a.0 ∙ b.0) (a.1 ∙ sym b.1)

      values : OwnOf p path value_role → OwnOf q path value_role → ⊥
      values a b = unlike (sym a.0 ∙ b.0) (a.1 ∙ sym b.1)

  -- ---- all statements

  module _ (K : Path → Spot) where
    -- an earlier statement is unlike each of these
    abbrev Earlier : List Printed → paths.Placed → Type 0
    Earlier ps e = (q : Printed) × AllByRecursion (Says mode K q) (map core e.mentions) × AllByRecursion (Unlike q) ps

    agree-all : (earlier : List paths.Placed) (p : Printed) (ps : List Printed) (ms : List (Mention Source))
        → AllByRecursion (Earlier (p ∷ ps)) earlier → AllByRecursion (Says mode K p) (map core ms)
        → list_all (λ e. agree may_meet e.mentions ms) earlier ≡ true
    agree-all [] p ps ms h g = refl
    agree-all (e ∷ earlier) p ps ms h g =
        and_both (agree may_meet e.mentions ms) (list_all (λ e. agree may_meet e.mentions ms) earlier)
        (agree-by may_meet (Says mode K h.0.0) (Says mode K p) (says-meet K h.0.0 p h.0.2.0) e.mentions ms h.0.1 g)
        (agree-all earlier p ps ms h.1 g)

    all-right : (c : Context) (ps : List Printed) (earlier : List paths.Placed) → Threads (StandsIn mode K) c.arrays c.block ps
        → AllPairs Unlike ps
        → AllByRecursion (λ (p : Printed). is_sound p.statement ≡ true) ps → AllByRecursion (Earlier ps) earlier
        → all_right_after earlier (placed_from c (map (λ (p : Printed). p.statement) ps)) ≡ true
    all-right c [] earlier threads unlike sound before = refl
    all-right c (p ∷ ps) earlier threads unlike sound before =
        let s = p.statement in
        let here : paths.Placed = record { source = source_of c s; mentions = mentions_of c s } in
        let says : AllByRecursion (Says mode K p) (map core (mentions_of c s)) =
        subst (AllByRecursion (Says mode K p)) (sym (mentions-told c s)) threads.0.says in
        and_both (is_right_after earlier here) (all_right_after (earlier
        ++ (here ∷ [])) (placed_from (context_after c s) (map (λ (p : Printed). p.statement) ps)))
        (right s (and_both (is_sound s) (list_all (λ e. agree may_meet e.mentions (mentions_of c s)) earlier) sound.0
        (agree-all earlier p ps (mentions_of c s) before says)))
        (all-right (context_after c s) ps (earlier ++ (here ∷ [])) (threads-next (StandsIn mode K) c p ps threads) unlike.1 sound.1
        (all-append (Earlier ps) earlier (here ∷ [])
        (all-map (Earlier (p ∷ ps)) (Earlier ps) earlier (λ e h. (h.0, h.1, h.2.1)) before)
        ((p, says, unlike.0), tt)))
      where
        right : (s : Statement) → (is_sound s && list_all (λ e. agree may_meet e.mentions (mentions_of c s)) earlier) ≡ true
            → is_right_after earlier (record { source = source_of c s; mentions = mentions_of c s }) ≡ true
        right (key_line f v end) h = h
        right (header k end) h = h

  -- ---- each statement by itself

  pairs-printed : (v : Visit) (f : Bool) → IsVisit v
      → AllByRecursion (λ (p : Printed). has_agreeing_tables p.statement ≡ true) (printed_table mode f v)
  pairs-printed v f is =
      all-append (λ (p : Printed). has_agreeing_tables p.statement
      ≡ true) (printed_header mode f v) (map (printed_line mode v.path) (lines_of mode v))
      (headers (has_header mode v))
      (all-image (printed_line mode v.path) (λ (p : Printed). has_agreeing_tables p.statement ≡ true) (lines_of mode v)
      (all-map (IsLineOf mode) (λ l. has_agreeing_tables (line_statement mode l)
      ≡ true) (lines_of mode v) (λ l h. ap has_agreeing_pairs h.value ∙ value-agrees mode l.item h.made)
      (table_lines-are mode v.slots [] is.made tt)))
    where
      headers : (c : Bool) → AllByRecursion (λ (p : Printed). has_agreeing_tables p.statement ≡ true) (if c
          then record { block = v.path; path = v.path; statement = header_statement mode f v } ∷ [] else [])
      headers true = (refl, tt)
      headers false = tt

  all-pairs-printed : (f : Bool) (vs : List PlacedVisit) → AllByRecursion (λ (v : PlacedVisit). IsVisit v.1) vs
      → AllByRecursion (λ (p : Printed). has_agreeing_tables p.statement ≡ true) (printed_tables mode f vs)
  all-pairs-printed f [] h = tt
  all-pairs-printed f (v ∷ vs) h =
      all-append (λ (p : Printed). has_agreeing_tables p.statement
      ≡ true) (printed_table mode f v.1) _ (pairs-printed v.1 f h.0) (all-pairs-printed (f
      && is_empty (printed_table mode f v.1)) vs h.1)

  -- Every two printed statements agree, and every two pairs of each inline table.
  pub print-agrees : PrintAgrees mode
  print-agrees is_open t fitting =
      let ps = lead (root_prefix mode t) (written mode is_open t) in
      let agreeing = λ (p : Printed). has_agreeing_tables p.statement ≡ true in
      let limits : list_all (λ s. keeps_limits s && is_ranged s) (map (λ (p : Printed). p.statement) ps) ≡ true =
      subst (λ ss. list_all (λ s. keeps_limits s && is_ranged s) ss
      ≡ true) (printed-statements mode is_open t) (print-cut mode is_open t fitting).1 in
      let visits : AllByRecursion (λ (v : PlacedVisit). IsVisit v.1) (in_header_order t) =
      all-map (λ (v : PlacedVisit). IsVisit v.1 × (v.1.fields.is_dotted ≡ false)) (λ (v : PlacedVisit). IsVisit v.1) (in_header_order t)
      (λ v h. h.0)
      (order-all IsVisit t (record { keys = tt; made = fitting.made }, slots_walk-is t.slots [] [] fitting.made tt)) in
      right-accepted (document_in mode is_open t)
      (subst (λ ss. all_right_after [] (placed_from (start_context (document_in mode is_open t)) ss)
      ≡ true) (sym (printed-statements mode is_open t))
      (all-right (tree_spot t.slots) (start_context (document_in mode is_open t)) ps [] (printed-threads mode is_open t fitting)
      (lead-unlike (root_prefix mode t) (written mode is_open t)
      (written-by mode (AllPairs Unlike) is_open t (printed-unlike t fitting) (open-unlike (printed mode t) (printed-unlike t fitting))))
      (all-sound ps limits (lead-pairs (root_prefix mode t) (written mode is_open t)
      (written-by mode (AllByRecursion agreeing) is_open t (all-pairs-printed true (in_header_order t) visits)
      (open-agreeing (printed mode t) (all-pairs-printed true (in_header_order t) visits)))))
      tt))
