-- `read` shortens a loan that never ends. Assumes `Logic`.
use Rattle.std.proofs.Common.{◌∙◌, ◌*◌, ◌^◌, ◌<◌, List, [], ◌∷◌, ◌++◌, length, refl, ap, arith}
use mir.Syntax.{w8, w64}
use mir.Val.{Val, vptr, vint}
use base.Fml.{Lft}
use base.Logic.{SProp}
use prog.Wp.{WpFn}
use contract.BorrowLft.{⊑_static}
use contract.Running.{tables}
use types.Kit.{‵, raw, ◌⊛◌, prop, at_ret, ◌$◌, ◌∵◌, !, qed, move, drop, split, fsplit, fjoin, feq_l, feq_i, flt_l, flt_i, regoal, use1}
use types.Kit.{suffices, done}
use types.Part.{agg}
use types.Run.{enter, returns, of_opd, and_then, no_more, first, blocks, exec}
use types.ByLocal.{alloc_all, pass_all, free_all, look_at, get, sets, sets_last, env}
use denote.Builtin.{u8, usize, RawPtr, RefOf}
use denote.Exit.{yes}
use denote.Opens.{unhide, hide}
use denote.Plain.{uint_row_laws}
use denote.RattleType.{owns}
use denote.RawPtr.{block_of, count_of, ptr_val}
use denote.SharingLaws.{shortens}
use denote.Signature.{plain, types_at}
use denote.Slice.{slice_val, elements_shared, elements_shr_laws}
use denote.Steps.{nothing, heard}
use denote.Triple.Entry.{alive}
use denote.Triple.Walked.{says, Stays, walk_of, stay_dropped, Goes-dropped, ends_at}
use Rattle.std.proofs.raw_atomic.Walks.{proved_at}
use Rattle.toml_edit_text.specs.contracts.shown.Shown as Shown
use Rattle.toml_edit_text.specs.contracts.shown.Shown.read as f
use Rattle.toml_edit_text.proofs.shown.Shown.read.Statement.{statement}
use Rattle.toml_edit_text.proofs.shown.Shown.read.Code as code

abbrev stayed : Stays f.ended.signature.params f.ended.kept
stayed = (
  stay_dropped (RefOf (0 ∷ []) tt (plain (λ _. Shown.the_row)) (λ _. tt)) yes,
  (stay_dropped (plain (λ _. RawPtr)) yes, (stay_dropped (plain (λ _. usize)) yes, tt)),
)

pub read_spec : {M : Type 1} → statement M
read_spec 𝓤 𝓛 𝓜 𝓡 wired =
    let c = f.clauses 𝓛 𝓜.mem 𝓡.returns in let W = walk_of 𝓛 f.ended stayed c in let 𝓣 = tables 𝓤 𝓛.H 𝓜 𝓡 𝓡.env in let fn = code.function in
    proved_at 𝓛 f.ended stayed c 𝓜 𝓡 (
      Goes-dropped 𝓛 1 (RefOf (0 ∷ []) tt (plain (λ _. Shown.the_row)) (λ _. tt)) yes (λ κs x w. refl),
      (Goes-dropped 𝓛 1 (plain (λ _. RawPtr)) yes (λ κs x w. refl), (Goes-dropped 𝓛 1 (plain (λ _. usize)) yes (λ κs x w. refl), tt)),
    )
    f.Key.name fn (code.unfolded 𝓤 𝓛.H 𝓜 𝓡 wired) (λ y are.
    let κs = y.0.0 in let κ : Lft = κs.0 in let self = y.0.3.0.ref_ptr in let s = y.0.3.0.now in let xs = s.items in let vss = y.0.4 in
    let b = block_of s.ptr in let o = count_of s.ptr in let bytes = elements_shared u8 xs b o in
    let fits : length xs < 2 ^ 64 = omega (arith, s.placed.1) in let this = vptr self.0 self.1 in let at = vptr b o in let count =
    vint w64 (length xs) in
    let Runs : List Val → SProp 𝓤 = λ us. WpFn 𝓤 𝓛.H 𝓣.C 𝓣.Λ fn us (W.post y) in
    qed 𝓛 ((raw (alive 𝓛 f.signature κs y.0.1) ⊛ ‵ (owns (types_at f.signature.params κs) y.0.3 vss)) ∷ raw ((c κs y.0.3).requires y.1)
    ∷ []) ∵
    move ! (1 ∷ []) $ heard ! _ (λ asked. split ! $ move ! (1 ∷ []) $
    fsplit ! $ fsplit ! $ feq_l ! (λ is₀. unhide ! $ fsplit ! $ drop ! $ move ! (1 ∷ []) $
    fsplit ! $ feq_l ! (λ is₁. fsplit ! $ fsplit ! $ feq_l ! (λ is₂. flt_l ! (λ _. drop ! $
    -- [the bytes, for ever; the token of κ]
    use1 𝓛 (‵ (bytes κ)) (shortens 𝓛 bytes (elements_shr_laws u8 (uint_row_laws w8) xs b o) [] κ (⊑_static κ)) $
    -- the slice that is returned
    hide ! $ flt_i ! (length xs * 1) (2 ^ 63) (omega (arith, s.placed.1)) $ flt_i ! (length xs) (2 ^ 64) fits $ fjoin ! $
    feq_i ! (List Val) (slice_val (b, o) (length xs) ∷ []) (slice_val (b, o) (length xs) ∷ []) refl $ fjoin ! $ fjoin ! $
    regoal ! (λ (us : List Val). prop (Runs (us ++ (vss.1.0 ++ (vss.1.1.0 ++ []))))) is₀ refl $
    regoal ! (λ (us : List Val). prop (Runs (this ∷ (us ++ (vss.1.1.0 ++ []))))) (is₁
    ∙ ap (λ p. ptr_val p ∷ []) (asked.0 ∙ s.placed.0)) refl $
    regoal ! (λ (us : List Val). prop (Runs (this ∷ at ∷ (us ++ [])))) (is₂ ∙ ap (λ n. vint w64 n ∷ []) asked.1) refl $
    enter ! 𝓣.C 𝓣.Λ fn (this ∷ at ∷ count ∷ []) (W.post y) $
    alloc_all ! (λ l. pass_all ! refl ((tt, tt), ((tt, tt), ((tt, record { fits = fits }), tt))) $
    first ! $ blocks ! $
    sets_last ! (agg ! (and_then ! (get ! refl) (and_then ! (get ! refl) (no_more !)))) refl (tt, (tt, (record { fits = fits }, tt))) $
    exec ! 𝓣.C 𝓣.Λ (env fn.locals l) code.Mir.t-2 (at_ret (env fn.locals l) (W.post y)) $
    sets ! (of_opd ! (get ! refl)) refl (tt, (tt, (record { fits = fits }, tt))) $
    returns ! (look_at ! 0 refl) $ free_all ! refl $
    suffices ! _ (ends_at 𝓛 f.ended stayed c y (slice_val (b, o) (length xs)) (record { ref_ptr = (b, o); now = xs }) (
      tt,
      (tt, (tt, tt)),
    ) (tt, (tt, (tt, tt)))) $ says ! refl $
    nothing ! $ nothing ! $ fjoin ! $ nothing ! $ fjoin ! $ nothing ! $ fjoin ! $ move ! (2 ∷ 0 ∷ 1 ∷ []) $ done !)))))))
