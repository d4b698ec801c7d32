-- A `&` to a side that is set holds what one to a raw text does. Assumes `Logic`.
use Rattle.std.proofs.Common.{◌≡◌, List, [], ◌∷◌, ◌++◌, refl, sym, subst}
use Rattle.std.specs.Prelude.{false, true, Option, Some, IsSome}
use mir.Val.{Val, vptr}
use base.Fml.{Lft}
use base.Logic.{SProp}
use prog.Wp.{WpFn, Env}
use contract.Running.{tables}
use types.Kit.{‵, raw, ◌⊛◌, some, prop, at_ret, ◌$◌, ◌∵◌, !, qed, move, keep, split, fsplit, fjoin, feq_l, feq_i, regoal, use1, pick, suffices, done}
use types.Run.{enter, returns, of_opd, first, blocks, exec, addr, stop}
use types.ByLocal.{alloc_all, pass_all, free_all, look_at, get, through, sets, sets_last, env}
use denote.Builtin.{RefOf}
use denote.Exit.{yes}
use denote.Model.Fields.{view_shares, view-Hides}
use denote.Opens.{unhide, hide}
use denote.RattleType.{owns}
use denote.Signature.{plain, types_at}
use denote.Steps.{nothing, heard}
use denote.Triple.Entry.{alive}
use denote.Triple.Walked.{says, Stays, walk_of, stay_dropped, Goes-dropped, ends_at}
use Rattle.std.proofs.raw_atomic.Walks.{proved_at}
use Rattle.core.proofs.atomic.Steps.{tail}
use Rattle.toml_edit_model.specs.Tree as tree
use Rattle.toml_edit_text.specs.Packed.{Packed, held, span, unset}
use Rattle.toml_edit_text.specs.RawView.{raw_view, side_view, IsSet}
use Rattle.toml_edit_text.specs.contracts.raw_string.Side as Side
use Rattle.toml_edit_text.specs.contracts.raw_string.Side.TheInside as SideIn
use Rattle.toml_edit_text.specs.contracts.raw_string.RawString as Raw
use Rattle.toml_edit_text.specs.contracts.raw_string.RawString.TheInside as RawIn
use Rattle.toml_edit_text.specs.contracts.raw_string.seen as f
use Rattle.toml_edit_text.proofs.raw_string.seen.Statement.{statement}
use Rattle.toml_edit_text.proofs.raw_string.seen.Code as code

-- what is packed in a side that is set
set_of : (p : Packed) (s : Option tree.Raw) → side_view p ≡ s → IsSome s → IsSet p × (Some (raw_view p) ≡ s)
set_of (held t) s e h = (tt, e)
set_of (span i j) s e h = (tt, e)
set_of unset s e h = let none : false ≡ true = subst IsSome (sym e) h in absurd cc

abbrev stayed : Stays f.ended.signature.params f.ended.kept
stayed = (stay_dropped (RefOf (0 ∷ []) tt (plain (λ _. Side.the_row)) (λ _. tt)) yes, tt)

pub seen_spec : {M : Type 1} → statement M
seen_spec {M} 𝓤 𝓛 𝓜 𝓡 wired =
    let c = f.clauses 𝓛 𝓜.mem 𝓡.returns in let W = walk_of 𝓛 f.ended stayed c in let 𝓣 = tables 𝓤 𝓛.H 𝓜 𝓡 𝓡.env in let fn = code.function in
    let shows = view_shares SideIn.the_row (Option tree.Raw) Side.the_row.coded Side.the_view Side.the_invariant in
    proved_at 𝓛 f.ended stayed c 𝓜 𝓡 (Goes-dropped 𝓛 1 (RefOf (0 ∷ []) tt (plain (λ _. Side.the_row)) (λ _. tt)) yes (λ κs x w. refl), tt)
    f.Key.name fn (code.unfolded 𝓤 𝓛.H 𝓜 𝓡 wired) (λ y are.
    let κs = y.0.0 in let κ : Lft = κs.0 in let b = y.0.3.0.ref_ptr.0 in let o = y.0.3.0.ref_ptr.1 in let s = y.0.3.0.now in let vss = y.0.4 in
    let Runs : List Val → SProp 𝓤 = λ us. WpFn 𝓤 𝓛.H 𝓣.C 𝓣.Λ fn us (W.post y) in
    qed 𝓛 ((raw (alive 𝓛 f.signature κs y.0.1) ⊛ ‵ (owns (types_at f.signature.params κs) y.0.3 vss)) ∷ raw ((c κs y.0.3).requires y.1)
    ∷ []) ∵
    move ! (1 ∷ []) $ heard ! _ (λ asked. split ! $ move ! (1 ∷ []) $
    fsplit ! $ fsplit ! $ feq_l ! (λ is₀. unhide ! $
    use1 𝓛 (some (λ (a : (a : SideIn.the_row.Denot) × shows.Known s a). ‵ (SideIn.the_row.shr_at a.0 b o κ))) (shows.shows M 𝓤 𝓛 s b o κ) $ pick ! (λ a.
    let set = set_of a.0.text s a.1.0 asked in
    use1 𝓛 (‵ (Raw.the_row.shr_at (raw_view a.0.text) b o κ))
    (view-Hides RawIn.the_row tree.Raw Raw.the_row.coded Raw.the_view Raw.the_invariant M 𝓤 𝓛 (raw_view a.0.text) (record { text = a.0.text }) (refl, set.0) b o κ) $
    hide ! $ feq_i ! (List Val) (vptr b o ∷ []) (vptr b o ∷ []) refl $ fjoin ! $
    regoal ! (λ (us : List Val). prop (Runs (us ++ []))) is₀ refl $
    enter ! 𝓣.C 𝓣.Λ fn (vptr b o ∷ []) (W.post y) $
    alloc_all ! (λ l. pass_all ! refl ((tt, tt), tt) $ let En : Env 𝓤 𝓛.H = env fn.locals l in
    first ! $ blocks ! $ sets ! (addr ! (through ! refl (stop !))) refl (tt, tt) $ sets ! (of_opd ! (get ! refl)) refl (tt, tt) $
    sets_last ! (addr ! (through ! refl (stop !))) refl (tt, tt) $
    exec ! 𝓣.C 𝓣.Λ En (tail fn.body) (at_ret En (W.post y)) $ sets ! (of_opd ! (get ! refl)) refl (tt, tt) $
    returns ! (look_at ! 0 refl) $ free_all ! refl $ keep ! (0 ∷ 2 ∷ []) $
    suffices ! _ (ends_at 𝓛 f.ended stayed c y (vptr b o) (record { ref_ptr = (b, o); now = raw_view a.0.text }) (tt, tt) (tt, tt)) $ says ! set.1 $
    nothing ! $ nothing ! $ fjoin ! $ move ! (2 ∷ 0 ∷ 1 ∷ []) $ done !)))))
