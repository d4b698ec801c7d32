-- The tree of an accepted document shows what the document means.
use Rattle.std.proofs.Common.{◌≡◌, ◌≤◌, refl, sym, subst, arith, inl, inr, true, List, [], ◌∷◌}
use Rattle.toml_edit_model.specs.Text.{Text}
use Rattle.toml_edit_model.specs.Syntax.{Document, IsDocument}
use Rattle.toml_edit_model.specs.Paths.{at_key, Path, Mention, Source, placed_from, start_context, all_mentions}
use Rattle.toml_edit_model.specs.Accepted.{is_accepted}
use Rattle.toml_edit_model.specs.Meaning.{Fact, fact, a_table, SameFacts, facts_from, meaning}
use Rattle.toml_edit_model.specs.Tree.{Slots}
use Rattle.toml_edit_model.specs.TreeOf.{Form, AreSlotsOf}
use Rattle.toml_edit_model.specs.Shown.{slots_facts, shown_meaning}
use Rattle.toml_edit_laws.specs.OneByOne.{all_right_after}
use Rattle.toml_edit_laws.specs.ReadTrees.{TreesMean, TakenRootsMean}
use Rattle.toml_edit_laws.proofs.common.Members.{Among, from-contained, to-contained}
use Rattle.toml_edit_laws.proofs.adding.StatementMentions.{document_table}
use Rattle.toml_edit_laws.proofs.clashes.ClashContext.{before_none, keyed_statements}
use Rattle.toml_edit_laws.proofs.read_trees.StatementsRight.{document-right}
use Rattle.toml_edit_laws.proofs.read_trees.FactsTold.{Tells}
use Rattle.toml_edit_laws.proofs.read_trees.ReadSoFar.{read_document}
use Rattle.toml_edit_laws.proofs.read_trees.BelowKeys.{Readable, way-begins}
use Rattle.toml_edit_laws.proofs.read_trees.TreeFacts.{Same, root-tells}
use Rattle.toml_edit_laws.proofs.read_trees.TextFacts.{facts-forth, told-back, number-back}
use Rattle.toml_edit_laws.proofs.one_by_one.Together.{accepted-right}
use Rattle.toml_edit_model.specs.TableMentions.{kept}

module _ (d : Document) (grammar : IsDocument d) (accepted : is_accepted d ≡ true) where
  each-right : all_right_after [] (placed_from (start_context d) d.statements) ≡ true
  each-right = accepted-right d accepted

  pub document-readable : Readable (all_mentions d)
  document-readable =
      let read = read_document d grammar accepted in
      record {
        table = document_table d accepted;
        statements = read.statements;
        ways = λ m a. inr (read.ways m a);
        more = read.more;
        right = document-right d grammar accepted;
      }

  begins : (m : Mention Source) → Among m (all_mentions d) → (l : Text) × (r : Path) × (m.path ≡ at_key l ∷ r)
  begins m a = way-begins (all_mentions d) m ((read_document d grammar accepted).ways m a)

  -- what the mentions tell is stated
  stated : (f : Fact) → Tells [] (all_mentions d) f → Among f (facts_from (start_context d) d.statements)
  stated f (inl t) = told-back (start_context d) d.statements (keyed_statements d.final d.statements grammar.0) t.mention f t.among t.told
  stated f (inr t) =
      let low : 0 ≤ t.number = omega arith in
      subst (λ g. Among g (facts_from (start_context d) d.statements)) (sym t.is)
      (number-back (start_context d) d.statements [] (keyed_statements d.final d.statements grammar.0) (before_none d) each-right t.path
      t.number low t.within)

  -- and what is stated they tell
  told : (f : Fact) → Among f (facts_from (start_context d) d.statements) → Tells [] (all_mentions d) f
  told f a =
      facts-forth (all_mentions d) (start_context d) d.statements [] (keyed_statements d.final d.statements grammar.0) (before_none d)
      each-right refl
      (λ g b. elim b [ ]) f a

  slots-mean : (form : Form) (ss : Slots) → AreSlotsOf form (all_mentions d) (kept (all_mentions d)) ss → (f : Fact)
      → Same (Among f (slots_facts ss [])) (Among f (facts_from (start_context d) d.statements))
  slots-mean form ss is f =
      let same = root-tells form ss (all_mentions d) document-readable begins is f in
      (λ a. stated f (same.0 a), λ a. same.1 (told f a))

one-more : (f g : Fact) (fs gs : List Fact) → (Among f fs → Among f gs) → Among f (g ∷ fs) → Among f (g ∷ gs)
one-more f g fs gs h (inl e) = inl e
one-more f g fs gs h (inr a) = inr (h a)

-- The tree of an accepted document shows what the document means.
pub trees_mean : TreesMean
unfolding shown_meaning meaning
trees_mean d grammar accepted form t is f =
    let slots = slots_facts t.slots [] in
    let facts = facts_from (start_context d) d.statements in
    let same = slots-mean d grammar accepted form t.slots is.slots f in (
      λ c. to-contained f (fact [] a_table ∷ facts) (one-more f (fact [] a_table) slots facts same.0 (from-contained f (fact [] a_table
          ∷ slots) c)),
      λ c. to-contained f (fact [] a_table ∷ slots) (one-more f (fact [] a_table) facts slots same.1 (from-contained f (fact [] a_table
          ∷ facts) c)),
    )

-- So does a root that is taken as it is.
pub taken_roots_mean : TakenRootsMean
unfolding shown_meaning
taken_roots_mean d grammar accepted form t u is same =
    subst (λ ss. SameFacts (fact [] a_table ∷ slots_facts ss []) (meaning d)) (sym same) (trees_mean d grammar accepted form t is)
