-- The first faulty statement has faults, and no statement before it has any.
use Rattle.std.proofs.Common.{◌≡◌, refl, sym, ◌∙◌, ap, subst, true, false, List, [], ◌∷◌, Option, Some, None, inl, inr}
use Rattle.std.specs.Prelude.{Contains}
use Rattle.std.specs.List.{list_all}
use Rattle.std.proofs.lemmas.Bool.{cases_Bool}
use Rattle.toml_edit_model.specs.Syntax.{Document}
use Rattle.toml_edit_model.specs.Version.{v1_1}
use Rattle.toml_edit_model.specs.Paths.{Mention, Source, Placed, placed}
use Rattle.toml_edit_model.specs.Accepted.{agree, is_sound, is_accepted, IsFirstFaulty}
use Rattle.toml_edit_model.specs.Faults.{Fault, first_clash, statement_clash, own_faults, faults_in, IsFirstFault}
use Rattle.toml_edit_laws.specs.OneByOne.{is_right_after, first_faults, FaultsOfFirst}
use Rattle.toml_edit_laws.proofs.common.Tests.{and_both, append-nil, true-false}
use Rattle.toml_edit_laws.proofs.common.Lists.{left-empty, right-empty}
use Rattle.toml_edit_laws.proofs.common.Members.{Among, to-contained, from-contained}
use Rattle.toml_edit_laws.proofs.common.OptionSteps.{is_none}
use Rattle.toml_edit_laws.proofs.inline_tables.AgreeLaws.{agree-clash}
use Rattle.toml_edit_laws.proofs.clashes.ClashContext.{agree-each}
use Rattle.toml_edit_laws.proofs.clashes.ClashFirst.{first-after, faults-stop}
use Rattle.toml_edit_laws.proofs.mentions.Placed.{mentions_in}
use Rattle.toml_edit_laws.proofs.building.Places.{sound-of-none}
use Rattle.toml_edit_laws.proofs.one_by_one.Together.{right-together}
use Rattle.toml_edit_laws.proofs.one_by_one.FirstFaulty.{wrong_here, first_faulty_laws}
use Rattle.toml_edit_model.specs.Roles.{may_meet}

-- a statement without faults is right
faultless : (earlier : List Placed) (s : Placed) → faults_in earlier s ≡ [] → is_right_after earlier s ≡ true
faultless earlier s none =
    let own = own_faults s.source.start s.source.statement in
    let clash = first_clash may_meet (mentions_in earlier) s.mentions in
    and_both (is_sound s.source.statement) (list_all (λ (e : Placed). agree may_meet e.mentions s.mentions) earlier)
    (sound-of-none s.source.start s.source.statement (left-empty own (statement_clash clash) none))
    (agree-each earlier s.mentions ∙ agree-clash may_meet (mentions_in earlier) s.mentions
    ∙ no-clash clash (right-empty own (statement_clash clash) none))
  where
    no-clash : (o : Option (Mention Source × Mention Source)) → statement_clash o ≡ [] → is_none o ≡ true
    no-clash None h = refl
    no-clash (Some x) h = absurd cc

has-fault : (earlier : List Placed) (s : Placed) → is_right_after earlier s ≡ false
    → (f : Fault) × (fs : List Fault) × (faults_in earlier s ≡ f ∷ fs)
has-fault earlier s wrong = by_faults (faults_in earlier s) refl
  where
    by_faults : (fs : List Fault) → faults_in earlier s ≡ fs → (f : Fault) × (more : List Fault) × (faults_in earlier s ≡ f ∷ more)
    by_faults [] e = true-false (is_right_after earlier s) (faultless earlier s e) wrong
    by_faults (f ∷ fs) e = (f, fs, e)

some-fault : (d : Document) (earlier : List Placed) (s : Placed) → IsFirstFaulty d earlier s → (f : Fault) × (fs : List Fault)
    × (faults_in earlier s ≡ f ∷ fs)
some-fault d earlier s first = has-fault earlier s (wrong_here v1_1 earlier s first.right first.faulty)

faults-are : (d : Document) (earlier : List Placed) (s : Placed) → IsFirstFaulty d earlier s → first_faults [] (placed d)
    ≡ faults_in earlier s
faults-are d earlier s first =
    let (f, fs, e) = some-fault d earlier s first in
    ap (first_faults []) first.split
    ∙ first-after [] earlier (s ∷ first.later) (sym (right-together v1_1 earlier) ∙ first.right)
    ∙ faults-stop earlier first.later s f fs e ∙ sym e

-- right statements have no faults
none-first : (d : Document) → is_accepted d ≡ true → first_faults [] (placed d) ≡ []
unfolding is_accepted first_faults
none-first d h =
    ap (first_faults []) (sym (append-nil (placed d)))
    ∙ first-after [] (placed d) [] (sym (right-together v1_1 (placed d)) ∙ h)

named-to : (d : Document) (f : Fault) → Contains (first_faults [] (placed d)) f → IsFirstFault d f
unfolding is_accepted
named-to d f has =
    elim (cases_Bool (is_accepted d)) [
      | inl e ↦ elim (subst (Among f) (none-first d e) (from-contained f (first_faults [] (placed d)) has)) [ ]
      | inr e ↦
          let (earlier, s, first) = (first_faulty_laws v1_1 d).some e in
          record {
            earlier = earlier;
            statement = s;
            first = first;
            stands =
                subst (λ fs. Contains fs f) (faults-are d earlier s first) has;
          }
    ]

named-of : (d : Document) (f : Fault) → IsFirstFault d f → Contains (first_faults [] (placed d)) f
named-of d f h = subst (λ fs. Contains fs f) (sym (faults-are d h.earlier h.statement h.first)) h.stands

-- A fault that is found one by one is one of the first faulty statement, and the other way round.
pub faults_of_first : FaultsOfFirst
faults_of_first d =
    record {
      faults = faults-are d;
      some = λ earlier s first. let (f, fs, e) = some-fault d earlier s first in
          (f, to-contained f (faults_in earlier s) (subst (Among f) (sym e) (inl refl)));
      named = λ f. (named-to d f, named-of d f);
    }
