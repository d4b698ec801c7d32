-- A loop over the statements of a document, in a version of the grammar: it stops at the first faulty one, by its faults, and else ends
-- with the tree.
use Rattle.std.proofs.Common.{◌≡◌, refl, sym, ◌∙◌, ap, subst, ℕ, Bool, true, false, List, [], ◌∷◌, ◌++◌, append_assoc, Some}
use Rattle.std.specs.Prelude.{map, Contains}
use Rattle.std.specs.List.{AllByRecursion, list_all}
use Rattle.toml_edit_model.specs.Mode.{Mode}
use Rattle.toml_edit_model.specs.Text.{one, is_empty}
use Rattle.toml_edit_model.specs.Syntax.{Statement, key_line, header, Document, IsDocument}
use Rattle.toml_edit_model.specs.Version.{Version, v1_0, v1_1, Place, is_of_version, late_places}
use Rattle.toml_edit_model.specs.Paths.{Placed, placed, Context, source_of, context_after, placed_from, start_context}
use Rattle.toml_edit_model.specs.Accepted.{is_accepted, is_accepted_in, IsFirstFaultyIn}
use Rattle.toml_edit_model.specs.Faults.{Fault, fault, needs_message, own_faults, faults_in, late_faults, faults_of}
use Rattle.toml_edit_model.specs.Tree.{Node, Slots}
use Rattle.toml_edit_model.specs.TreeOf.{spanned_in, IsTreeOf}
use Rattle.toml_edit_laws.specs.OneByOne.{is_right_after, is_right_in, all_right_in, all_right_after}
use Rattle.toml_edit_laws.specs.Building.{context_behind, done_places, next_place, Builder, first_builder, added, faults_at, behind}
use Rattle.toml_edit_laws.specs.Building.{built_tree, IsStatementNode, StandsBefore}
use Rattle.toml_edit_laws.specs.Versions.{IsRefusedIn}
use Rattle.toml_edit_laws.proofs.common.Tests.{and_left, and_right, and_both, append-nil, false-by}
use Rattle.toml_edit_laws.proofs.common.Members.{from-contained, to-contained, none-contained, image-among}
use Rattle.toml_edit_laws.proofs.values.ValueFaults.{is_empty-nil}
use Rattle.toml_edit_laws.proofs.mentions.Placed.{source-statement}
use Rattle.toml_edit_laws.proofs.one_by_one.Together.{right-together, accepted-right}
use Rattle.toml_edit_laws.proofs.one_by_one.FirstFaulty.{wrong_there, first_faulty_laws}
use Rattle.toml_edit_laws.proofs.clashes.ClashContext.{keyed_statements}
use Rattle.toml_edit_laws.proofs.clashes.ClashFirst.{right-none, placed-append}
use Rattle.toml_edit_laws.proofs.building.Loop.{here-faults, building_laws}
use Rattle.toml_edit_laws.proofs.building.Run.{stands_last}
use Rattle.toml_edit_laws.proofs.versions.LatePlaces.{late-have-places}

-- ---- one statement

-- A statement of a version has no part that the version lacks,
pub late-none : (version : Version) (i : ℕ) (s : Statement) → is_of_version version s ≡ true → late_faults version i s ≡ []
late-none v1_0 i s h = ap (map (λ (p : Place). fault needs_message p.0 p.1)) (is_empty-nil (late_places i s) (late-have-places i s ∙ h))
late-none v1_1 i s h = refl

-- and one that has none is of TOML 1.0.
pub early-of-none : (i : ℕ) (s : Statement) → late_places i s ≡ [] → is_of_version v1_0 s ≡ true
early-of-none i s h = sym (late-have-places i s) ∙ ap is_empty h

-- Each part that TOML 1.0 lacks is a fault.
pub late-named : (i : ℕ) (s : Statement) (p : Place) → Contains (late_places i s) p
    → Contains (late_faults v1_0 i s) (fault needs_message p.0 p.1)
late-named i s p h =
    to-contained (fault needs_message p.0 p.1) (late_faults v1_0 i s)
    (image-among (λ (q : Place). fault needs_message q.0 q.1) p (late_places i s) (from-contained p (late_places i s) h))

-- a statement that is right after the earlier ones, in the version, has no fault
right-none_in : (version : Version) (earlier : List Placed) (s : Placed) → is_right_in version earlier s ≡ true
    → faults_of version earlier s ≡ []
right-none_in version earlier s h =
    let of_version = is_of_version version s.source.statement in
    ap (λ fs. fs ++ faults_in earlier s) (late-none version s.source.start s.source.statement
    (and_left of_version (is_right_after earlier s) h))
    ∙ right-none earlier s (and_right of_version (is_right_after earlier s) h)

-- ---- statements of a version

abbrev pub AreOfVersion : Version → List Statement → Type 0
AreOfVersion version ss = AllByRecursion (λ s. is_of_version version s ≡ true) ss

abbrev are_of_version : Version → List Placed → Bool
are_of_version version places = list_all (λ s. is_of_version version s.source.statement) places

one-more : (version : Version) (ss : List Statement) (s : Statement) → AreOfVersion version ss → is_of_version version s ≡ true
    → AreOfVersion version (ss ++ one s)
one-more version [] s h g = (g, tt)
one-more version (r ∷ ss) s h g = (h.0, one-more version ss s h.1 g)

placed-of_version : (version : Version) (c : Context) (ss : List Statement) → AreOfVersion version ss
    → are_of_version version (placed_from c ss) ≡ true
placed-of_version version c [] h = refl
placed-of_version version c (s ∷ ss) h =
    and_both (is_of_version version (source_of c s).statement) (are_of_version version (placed_from (context_after c s) ss))
    (ap (is_of_version version) (source-statement c s) ∙ h.0) (placed-of_version version (context_after c s) ss h.1)

-- those that are right after one another in TOML 1.1 are so in their version
right-in_version : (version : Version) (earlier places : List Placed) → all_right_after earlier places ≡ true
    → are_of_version version places ≡ true
    → all_right_in version earlier places ≡ true
right-in_version version earlier [] h g = refl
right-in_version version earlier (s ∷ places) h g =
    let of_version = is_of_version version s.source.statement in
    let later = all_right_after (earlier ++ (s ∷ [])) places in
    let others = are_of_version version places in
    and_both (is_right_in version earlier s) (all_right_in version (earlier ++ (s ∷ [])) places)
    (and_both of_version (is_right_after earlier s) (and_left of_version others g) (and_left (is_right_after earlier s) later h))
    (right-in_version version (earlier ++ (s ∷ [])) places (and_right (is_right_after earlier s) later h) (and_right of_version others g))

-- What TOML 1.1 accepts, and whose statements are of the version, the version accepts.
pub accepted-of_version : (version : Version) (d : Document) → is_accepted d ≡ true → AreOfVersion version d.statements
    → is_accepted_in version d ≡ true
accepted-of_version version d h g =
    right-together version (placed d) ∙ right-in_version version [] (placed d) (accepted-right d h)
    (placed-of_version version (start_context d) d.statements g)

-- A statement that has a fault, after right ones of the version, is the first faulty one.
pub first-with_fault : (version : Version) (d : Document) (done : List Statement) (s : Statement) (rest : List Statement) (f : Fault)
    → d.statements ≡ done ++ (s ∷ rest)
    → all_right_after [] (done_places d done) ≡ true → AreOfVersion version done
    → Contains (faults_of version (done_places d done) (next_place d done s)) f
    → IsFirstFaultyIn version d (done_places d done) (next_place d done s)
first-with_fault version d done s rest f is right early has =
    let earlier = done_places d done in
    let here = next_place d done s in
    let wrong : is_right_in version earlier here ≡ false =
    false-by (is_right_in version earlier here) (λ e. none-contained f
    (subst (λ fs. Contains fs f) (right-none_in version earlier here e) has)) in
    record {
      later = placed_from (context_after (context_behind d done) s) rest;
      split = ap (placed_from (start_context d)) is ∙ placed-append (start_context d) done (s ∷ rest);
      right = right-together version earlier ∙ right-in_version version [] earlier right
          (placed-of_version version (start_context d) done early);
      faulty = wrong_there version earlier here wrong;
    }

-- ---- one loop invariant

place-start : (c : Context) (s : Statement) → (source_of c s).start ≡ c.start
place-start c (key_line f v end) = refl
place-start c (header h end) = refl

module _ (version : Version) (mode : Mode) where
  -- The builder stands before the statements that are left, and those before are of the version.
  pub record StandsBeforeIn (d : Document) (rest : List Statement) (b : Builder) : Type 0 where
    pub before : StandsBefore mode d rest b
    pub early : AreOfVersion version before.done

  -- It does before the first,
  pub stands_first_in : (d : Document) → IsDocument d → StandsBeforeIn d d.statements (first_builder d.has_mark)
  stands_first_in d h = record { before = record { done = []; split = refl; behind = (building_laws mode d h).first }; early = tt }

  -- and behind one of the version that is added.
  pub stands_next_in : (d : Document) (s : Statement) (rest : List Statement) (b : Builder) (n : Node) (next : Slots) → IsDocument d
      → StandsBeforeIn d (s ∷ rest) b
      → is_of_version version s ≡ true → own_faults b.start s ≡ [] → IsStatementNode mode b.start s n → added mode b s n ≡ Some next
      → StandsBeforeIn d rest (behind b s next)
  stands_next_in d s rest b n next h at early faultless value e =
      record {
        before = record {
          done = at.before.done ++ one s;
          split = at.before.split ∙ sym (append_assoc at.before.done (one s) rest);
          behind = ((building_laws mode d h).step at.before.done s rest b at.before.split at.before.behind).keeps n next faultless value e;
        };
        early = one-more version at.before.done s at.early early;
      }

  -- Behind the last the version accepts the document, and its tree is there.
  pub stands_last_in : (d : Document) (b : Builder) → IsDocument d → StandsBeforeIn d [] b → (is_accepted_in version d ≡ true)
      × IsTreeOf (spanned_in mode) d (built_tree mode d b)
  stands_last_in d b h at =
      let (accepted, tree) = stands_last mode d b h at.before in (
        accepted-of_version version d accepted (subst (AreOfVersion version) (sym (at.before.split ∙ append-nil at.before.done)) at.early),
        tree,
      )

  -- What stands in the next statement makes the document faulty.
  pub stands_refused_in : (d : Document) (s : Statement) (rest : List Statement) (b : Builder) (f : Fault) → IsDocument d
      → StandsBeforeIn d (s ∷ rest) b
      → Contains (late_faults version b.start s ++ faults_at b s) f → IsRefusedIn version d f
  stands_refused_in d s rest b f h at has =
      let done = at.before.done in
      let earlier = done_places d done in
      let here = next_place d done s in
      let c = context_behind d done in
      let same : faults_of version earlier here ≡ late_faults version b.start s ++ faults_at b s =
      ap (λ i. late_faults version i here.source.statement ++ faults_in earlier here) (place-start c s ∙ sym at.before.behind.start)
      ∙ ap (λ r. late_faults version b.start r ++ faults_in earlier here) (source-statement c s)
      ∙ ap (λ fs. late_faults version b.start s ++ fs) (here-faults mode d done s rest (keyed_statements d.final d.statements h.0)
      at.before.split b at.before.behind) in
      let stands : Contains (faults_of version earlier here) f = subst (λ fs. Contains fs f) (sym same) has in
      let first = first-with_fault version d done s rest f at.before.split at.before.behind.right at.early stands in
      record {
        names = record { earlier = earlier; statement = here; first = first; stands = stands };
        refused = (first_faulty_laws version d).refused earlier here first;
      }
