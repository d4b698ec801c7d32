-- `release` takes the row apart, makes room for a block of it, and hands that back with the right to free it. Assumes `Logic`.
use mathlib.Core.Path.{◌≡◌, refl, subst, sym, ◌∙◌}
use Prim.Native.Nat.{ℕ}
use mathlib.Core.List.{List, [], ◌∷◌, ◌++◌}
use lib.Dec.{T, lit<}
use mir.Syntax.{Fn, ty_unit}
use mir.MapTy.{inst_fn}
use mir.Val.{Val, vunit, vptr, has_ty, WT}
use base.Logic.{SProp, ent, id⊢}
use base.Fml.{Lft, Share, ftrue, froom, flft, Incl-trans}
use prog.Wp.{WpFn, Env}
use contract.BorrowLft.{◌⊑◌}
use contract.Monad.{fact}
use contract.Running.{tables}
use types.Kit.{Sq, prop, Item, group, ‵, raw, ◌⊛◌, given, later, at_ret, ◌$◌, ◌∵◌, !, qed, move, keep, use1, use2, split, join, learn}
use types.Kit.{rewrite, fsplit, fjoin, feq_i, feq_l, suffices, await, done}
use types.Part.{whole, sub}
use types.Run.{stop, fld, lit, unit_lit, of_opd, no_more, and_then, first, blocks, exec, enter, returns}
use types.ByLocal.{alloc_all, pass_all, free_all, look_at, get, get_in, is, sets, lands_last, env}
use denote.Builtin.{RefOf, RawPtr, u8, usize}
use denote.Exit.{yes, no}
use denote.Param.{layout}
use denote.RattleType.{RattleType, owns}
use denote.RawPtr.{Ptr}
use denote.Signature.{plain, types_at}
use denote.Steps.{heard, nothing}
use denote.Struct.Tuple.{Tuple}
use denote.Triple.Call.{calls_at_last}
use denote.Triple.Table.{framed}
use denote.Triple.Walked.{Stays, stay_dropped, walk_of, ends_at, Goes-dropped}
use Rattle.core.proofs.alloc.Calls.{Al, token, Gives, at_gives, Gives-goes, Gives-Gives, Goes-blank}
use Rattle.core.proofs.slots.Bodies.{after}
use Rattle.core.proofs.slots.Opens.{row_val, row_had, row_made}
use Rattle.core.proofs.slots.Slots.into_raw_parts.Met as callee
use Rattle.core.specs.Mem.Slots.{slots_items, slots_filled, slots_ptr, slots_len, slots_counts}
use Rattle.std.proofs.raw_atomic.Walks.{proved_at}
use Rattle.toml_edit_text.proofs.deed.Bytes.{byte, Row, places, block, block_size, block_align, args, P, Right, mark, mark_had, to_block}
use Rattle.toml_edit_text.proofs.deed.Bytes.{Into, at_into, into_goes, into_gives}
use Rattle.toml_edit_text.specs.contracts.deed.release as F
use Rattle.toml_edit_text.specs.contracts.deed.release.Key.{name as #self}
use Rattle.toml_edit_text.proofs.deed.release.Statement.{statement}
use Rattle.toml_edit_text.proofs.deed.release.Code as code

pub release_spec : {M : Type 1} → statement M
release_spec 𝓤 𝓛 𝓜 𝓡 wired X L g d dd met md =
    let Z : Al = record { row = X; laws = L; g = g; d = d; drops = dd } in
    let H = 𝓛.H in let 𝓣 = tables 𝓤 H 𝓜 𝓡 𝓡.env in let mem = 𝓜.mem in let run = 𝓡.returns in let fm = framed 𝓤 H 𝓜 𝓣 in
    let fn : Fn = inst_fn (args Z) code.function in
    let En = F.ended X g d dd in let c = F.clauses X g d dd 𝓛 mem run in
    let hs : Stays En.signature.params En.kept = (
      stay_dropped (RefOf (0 ∷ []) tt (plain (λ _. P Z)) (λ _. tt)) yes,
      (stay_dropped (plain (λ _. Row)) yes, (stay_dropped (plain (λ _. Right Z)) no, tt)),
    ) in
    proved_at 𝓛 En hs c 𝓜 𝓡 (
      Goes-dropped 𝓛 2 (RefOf (0 ∷ []) tt (plain (λ _. P Z)) (λ _. tt)) yes (λ κs x f. refl),
      (Goes-dropped 𝓛 2 (plain (λ _. Row)) yes (λ κs x f. refl), (Goes-blank 𝓛 2 (plain (λ _. Right Z)) no (λ κs x f. tt), tt)),
    ) (#self (args Z)) fn (code.unfolded 𝓤 H 𝓜 𝓡 wired (X, tt) d dd) (λ z are.
    let κ : Lft = z.0.0.0 in let q : Share = z.0.1.0 in let hp : ℕ × ℕ = z.0.3.0.ref_ptr in let h : X.Denot = z.0.3.0.now in
    let r : Row.Denot = z.0.3.1.0 in let right : (Right Z).Denot = z.0.3.1.1.0 in let vss = z.0.4 in
    let n : ℕ = slots_len r in let Ok : Type 0 = (right.at ≡ slots_ptr r) × (right.len ≡ n) × (right.alloc ≡ h) in let Post : Val
    → SProp 𝓤 = (walk_of 𝓛 En hs c).post z in
    let others : Item 𝓤 = ‵ (flft z.0.0.1.0 z.0.1.1.0) ⊛ ‵ ftrue in
    let exits : Sq 𝓛 (‵ (flft κ q) ∷ others ∷ []) (prop (Post vunit)) =
    suffices ! _ (ends_at 𝓛 En hs c z vunit tt (tt, (tt, (tt, tt))) (tt, (tt, (tt, tt)))) $ join ! $
    feq_i ! (List Val) (vunit ∷ []) (vunit ∷ []) refl $
    nothing ! $ nothing ! $ fjoin ! $ nothing ! $ fjoin ! $ nothing ! $ fjoin ! $ join ! $ move ! (1 ∷ 0 ∷ []) $ join ! $ nothing ! $
    keep ! (1 ∷ 0 ∷ []) $ done ! in
    qed 𝓛 (((‵ (flft κ q) ⊛ others) ⊛ ‵ (owns (types_at En.signature.params z.0.0) z.0.3 vss))
    ∷ (raw (fact 𝓤 (z.0.0.1.0 ⊑ X.lives)) ⊛ raw (fact 𝓤 Ok)) ∷ []) ∵
    move ! (1 ∷ []) $ split ! $ heard ! (z.0.0.1.0 ⊑ X.lives) (λ lives. heard ! Ok (λ ok. split ! $ split ! $ move ! (2 ∷ []) $ fsplit ! $
    fsplit ! $ feq_l ! (λ e₀. move ! (1 ∷ []) $ fsplit ! $
    -- [the row; the right; the handle; its token; the others]
    row_had byte ! r vss.1.0 (λ b o at e₁ fits fit. row_made byte ! r b o at fits fit $ move ! (1 ∷ []) $ fsplit ! $ fsplit ! $
    mark_had ! Z vss.1.1.0 (λ e₂.
    keep ! (2 ∷ 4 ∷ 0 ∷ 3 ∷ 5 ∷ []) $
    let words : WT (row_val b o n) = (tt, (record { fits = fits }, tt)) in let us : List Val = vptr hp.0 hp.1 ∷ row_val b o n ∷ mark ∷ [] in
    let Run : List Val → SProp 𝓤 = λ ws. WpFn 𝓤 H 𝓣.C 𝓣.Λ fn ws Post in let Parts : RattleType = Tuple (RawPtr ∷ usize ∷ []) in
    suffices ! (Run us) (subst (λ (ws : List Val). ent 𝓤 (Run us) (Run ws)) (sym (λ i. e₀ i ++ (e₁ i ++ (e₂ i ++ [])))) (id⊢ 𝓤 (Run us))) $
    enter ! 𝓣.C 𝓣.Λ fn us Post $ alloc_all ! (λ l. pass_all ! refl ((tt, tt), ((tt, words), ((tt, (tt, tt)), tt))) $ let Ev : Env 𝓤 H =
    env fn.locals l in
    let Into' = Into 𝓛 mem run in let whole_row : Into'.Ghost = at_into 𝓛 mem run κ q r b o in
    -- [the row; the token; the right; the handle; the others]
    first ! $ blocks ! $ sets ! (of_opd ! (get ! refl)) refl (tt, words) $
    use2 𝓛 (raw (Into'.pre whole_row)) (into_goes 𝓛 mem run κ q r b o) $
    calls_at_last ! fm Into' (callee.met 𝓤 𝓛 𝓜 𝓡 (code.calls-core::slots::Slots::into_raw_parts 𝓡.env wired) u8 byte.laws) whole_row
    (and_then ! (get ! refl) (no_more !)) (λ v.
    use1 𝓛 (later (given (v ≡ row_val b o n) (‵ (places b o (slots_items r) (slots_filled r)) ⊛ ‵ (flft κ q))))
    (into_gives 𝓛 mem run κ q r b o v at) $ await ! tt $ learn ! (λ are_parts. split ! $
    lands_last ! refl (subst (λ (u : Val). T (has_ty (layout Parts) u) × WT u) (sym are_parts) (tt, words)) $
    exec ! 𝓣.C 𝓣.Λ Ev (after 1 fn.body) (at_ret Ev Post) $
    sets ! (is ! (of_opd ! (get ! refl)) are_parts) refl (tt, words) $
    use1 𝓛 (‵ (froom (block n) b o)) (to_block 𝓛 n b o (slots_items r) (slots_filled r) (slots_counts r).0 (slots_counts r).1) $
    move ! (2 ∷ []) $
    rewrite ! 0 (λ (x : X.Denot × Ptr × ℕ). ‵ (token Z x.0 (block x.2) x.1)) (λ i. (ok.2 i, (ok.0 ∙ at) i, ok.1 i)) refl $
    move ! (1 ∷ 0 ∷ 3 ∷ 2 ∷ []) $ group ! 4 $
    let y : (Gives Z 𝓛 mem run).Ghost = at_gives Z 𝓛 mem run κ q hp h b o n 1 (block n) in
    use1 𝓛 (raw ((Gives Z 𝓛 mem run).pre y)) (Gives-goes Z 𝓛 mem run κ q hp h (Incl-trans z.0.2.0 lives) b o n 1 (block n)
    (block_size n fits) (block_align n) fits (lit< tt)) $
    first ! $ blocks ! $ calls_at_last ! fm (Gives Z 𝓛 mem run) (met.deallocate dd) y
    (and_then ! (get ! refl) (and_then ! (get_in ! (fld ! refl (stop !)) (sub ! 0 refl (whole !)))
    (and_then ! (get_in ! (fld ! refl (stop !)) (sub ! 1 refl (whole !))) (and_then ! (lit ! tt) (no_more !))))) (λ u.
    use1 𝓛 (later (given (u ≡ vunit) (‵ (flft κ q)))) (Gives-Gives Z 𝓛 mem run κ q hp h b o n 1 (block n) u) $ await ! tt $
    learn ! (λ is_unit.
    lands_last ! refl (subst (λ (w : Val). T (has_ty ty_unit w) × WT w) (sym is_unit) (tt, tt)) $
    exec ! 𝓣.C 𝓣.Λ Ev (after 3 fn.body) (at_ret Ev Post) $
    sets ! (of_opd ! (unit_lit !)) refl (tt, tt) $ returns ! (look_at ! 0 refl) $ free_all ! refl $ exits)))))))))))
