-- `reserve` asks the allocator for a block, makes a row of its room, and keeps the right to free it. Assumes `Logic`.
use mathlib.Core.Path.{◌≡◌, refl, subst, sym}
use mathlib.Core.Bool.{true, false}
use Prim.Native.Nat.{ℕ, ◌<◌, ◌^◌}
use mathlib.Core.List.{List, [], ◌∷◌}
use lib.Dec.{T, lit<}
use seplogic.Ra.Ura.{Ura}
use mir.Syntax.{Fn, Body, named, w64}
use mir.MapTy.{inst_fn}
use mir.Val.{Val, vint, vptr, vstruct, vcons, vnil, has_ty, WT}
use base.Logic.{SProp, ent, sep}
use base.Fml.{Lft, Share, ftrue, flft, Incl-trans}
use prog.Wp.{Wp, Env, after_seq, at_return}
use types.Logic.{Logic, sem}
use contract.BorrowLft.{◌⊑◌}
use contract.Monad.{fact}
use contract.Running.{tables}
use types.Kit.{Post as After, any_q, Item, prop, Sq, frame, ‵, raw, ◌⊛◌, some, given, later, at_ret, ◌$◌, ◌∵◌, !, qed, move, keep, use0}
use types.Kit.{use1, use2, split, join, pick, learn, fsplit, fjoin, feq_i, fpack, suffices, await, done}
use types.Match.{live, vrt, in_variant}
use types.Part.{whole, agg}
use types.Run.{stop, fld, lit, of_opd, no_more, and_then, first, blocks, switches_on, exec, enter, returns}
use types.ByLocal.{alloc_all, pass_all, free_all, look_at, get, get_in, get_tag, is, sets, sets_last, lands_as, lands_last, env}
use denote.Builtin.{RefOf, u8, usize}
use denote.Exit.{yes}
use denote.Laws.{Is}
use denote.Param.{layout}
use denote.Plain.{uint_vals, uint_Tells}
use denote.RattleType.{RattleType, Valss, owns}
use denote.RawPtr.{block_ptr}
use denote.Ref.{shr_vals, shr_Tells}
use denote.Signature.{plain, types_at}
use denote.Steps.{heard, nothing, owned}
use denote.Struct.Declared as Declared
use denote.Struct.Struct.{Struct, Struct-Makes, within}
use denote.Struct.Tuple.{Tuple, tuple_type}
use denote.Triple.Call.{calls_at, calls_at_last}
use denote.Triple.Table.{framed}
use denote.Triple.Walked.{Stays, stay_dropped, walk_of, says, ends_at, Goes-dropped}
use Rattle.core.proofs.alloc.Calls.{Al, Answer-typed, Takes, at_takes, Answered, Takes-goes, Takes-gives, answers}
use Rattle.core.proofs.once.Made.{ok_of, err_of}
use Rattle.core.proofs.slots.Bodies.{after, head, arm_body}
use Rattle.core.proofs.slots.Opens.{row_val}
use Rattle.core.proofs.slots.Slots.from_raw_parts.Met as callee
use Rattle.core.specs.Mem.Slots.{slots_ptr, slots_len}
use Rattle.core.specs.contracts.alloc.AllocError as AE
use Rattle.core.specs.contracts.result.Result as RS
use Rattle.std.proofs.raw_atomic.Walks.{proved}
use Rattle.std.specs.Prelude.{IfOk, Ok, Err}
use Rattle.toml_edit_text.proofs.deed.Bytes.{byte, Row, places, zeros, empty, block, block_size, block_align, args, P, Right, Mark, mark}
use Rattle.toml_edit_text.proofs.deed.Bytes.{mark_made, to_places, From, at_from, from_goes, Made, from_gives}
use Rattle.toml_edit_text.specs.contracts.deed.reserve as F
use Rattle.toml_edit_text.specs.contracts.deed.reserve.Key.{name as #self}
use Rattle.toml_edit_text.proofs.deed.reserve.Statement.{statement}
use Rattle.toml_edit_text.proofs.deed.reserve.Code as code

abbrev pair_val : Val → Val → Val
pair_val u v = vstruct (vcons u (vcons v vnil))

pair_of : {M : Type 1} {𝓤 : Ura M} (𝓛 : Logic 𝓤) (R S : RattleType) (x : R.Denot) (y : S.Denot) (u v : Val)
    → ent 𝓤 (sep 𝓤 (sem 𝓛 (R.own_val x (u ∷ []))) (sem 𝓛 (S.own_val y (v ∷ []))))
    (sem 𝓛 ((Tuple (R ∷ S ∷ [])).own_val (x, y) (pair_val u v ∷ [])))
pair_of 𝓛 R S x y u v =
    qed 𝓛 (‵ (R.own_val x (u ∷ [])) ∷ ‵ (S.own_val y (v ∷ [])) ∷ []) ∵ nothing ! $ move ! (2 ∷ 0 ∷ []) $ fjoin ! $ move ! (1 ∷ 0 ∷ []) $
    fjoin ! $
    feq_i ! (List Val) (pair_val u v ∷ []) (pair_val u v ∷ []) refl $ fjoin ! $
    fpack ! (Valss (R ∷ S ∷ [])) (within (Declared.shape (tuple_type (R ∷ S ∷ []))) (x, (y, tt)) (pair_val u v ∷ [])) (
      u ∷ [],
      (v ∷ [], tt),
    ) $ done !

pub reserve_spec : {M : Type 1} → statement M
reserve_spec 𝓤 𝓛 𝓜 𝓡 wired X L g d dd met md =
    let Z : Al = record { row = X; laws = L; g = g; d = d; drops = dd } in
    let H = 𝓛.H in let 𝓣 = tables 𝓤 H 𝓜 𝓡 𝓡.env in let mem = 𝓜.mem in let run = 𝓡.returns in let fm = framed 𝓤 H 𝓜 𝓣 in
    let fn : Fn = inst_fn (args Z) code.function in
    let En = F.ended X g d dd in let c = F.clauses X g d dd 𝓛 mem run in
    let hs : Stays En.signature.params En.kept =
    (stay_dropped (RefOf (0 ∷ []) tt (plain (λ _. P Z)) (λ _. tt)) yes, (stay_dropped (plain (λ _. usize)) yes, tt)) in
    let Pair : RattleType = Tuple (Row ∷ Right Z ∷ []) in let Out : RattleType = RS.the_row Pair AE.the_row in
    proved 𝓛 En hs c 𝓜 𝓡 (
      Goes-dropped 𝓛 2 (RefOf (0 ∷ []) tt (plain (λ _. P Z)) (λ _. tt)) yes (λ κs x f. refl),
      (Goes-dropped 𝓛 2 (plain (λ _. usize)) yes (λ κs x f. refl), tt),
    )
    (#self (args Z)) fn (code.unfolded 𝓤 H 𝓜 𝓡 wired (X, tt) d dd)
    (λ κs. (shr_vals, (uint_vals w64, tt))) (λ κs. (shr_Tells (named 0) κs.0 (P Z), (uint_Tells w64, tt))) (λ κs qs bounds a gh are.
    let κ : Lft = κs.0 in let q : Share = qs.0 in let hp : ℕ × ℕ = a.0.ref_ptr in let h : X.Denot = a.0.now in let n : ℕ = a.1.0 in
    let fits : n < 2 ^ 64 = are.1.0.1 in
    let z : (walk_of 𝓛 En hs c).Ghost = ((κs, qs, bounds, a, (shr_vals a.0, (uint_vals w64 n, tt))), gh) in let Post : Val → SProp 𝓤 =
    (walk_of 𝓛 En hs c).post z in
    let others : Item 𝓤 = ‵ (flft κs.1.0 qs.1.0) ⊛ ‵ ftrue in
    let exits : (r : Out.Denot) (v : Val) → IfOk r (λ p. (slots_len p.0 ≡ n) × (p.1.at ≡ slots_ptr p.0) × (p.1.len ≡ n) × (p.1.alloc ≡ h))
    → Sq 𝓛 (‵ (Out.own_val r (v ∷ [])) ∷ ‵ (flft κ q) ∷ others ∷ []) (prop (Post v)) = λ r v said.
    suffices ! _ (ends_at 𝓛 En hs c z v r (tt, (tt, tt)) (tt, (tt, tt))) $ says ! said $
    move ! (1 ∷ 2 ∷ []) $ join ! $ frame ! $ nothing ! $ nothing ! $ fjoin ! $ nothing ! $ fjoin ! $ done ! in
    qed 𝓛 (((‵ (flft κ q) ⊛ others) ⊛ ‵ (owns (types_at En.signature.params κs) a z.0.4))
    ∷ (raw (fact 𝓤 (κs.1.0 ⊑ X.lives)) ⊛ raw (fact 𝓤 (n < 2 ^ 63))) ∷ []) ∵
    move ! (1 ∷ []) $ split ! $ heard ! (κs.1.0 ⊑ X.lives) (λ lives. heard ! (n < 2 ^ 63) (λ small.
    split ! $ split ! $ move ! (2 ∷ []) $ fsplit ! $ fsplit ! $ keep ! (1 ∷ 3 ∷ 4 ∷ []) $
    enter ! 𝓣.C 𝓣.Λ fn (vptr hp.0 hp.1 ∷ vint w64 n ∷ []) Post $
    alloc_all ! (λ l. pass_all ! refl ((tt, tt), ((tt, record { fits = fits }), tt)) $
    let Ev : Env 𝓤 H = env fn.locals l in let both : Body = head (after 1 fn.body) in
    let Then : After 𝓤 H = any_q (after_seq 𝓤 H (Wp 𝓤 H 𝓣.C 𝓣.Λ Ev (after 2 fn.body) (at_return 𝓤 H Ev Post)) (at_return 𝓤 H Ev Post)) in
    let y : (Takes Z 𝓛 mem run).Ghost = at_takes Z 𝓛 mem run κ q hp h n 1 (block n) in
    -- [the handle; its token; the others]
    use2 𝓛 (raw ((Takes Z 𝓛 mem run).pre y)) (Takes-goes Z 𝓛 mem run κ q hp h (Incl-trans bounds.0 lives) n 1 (block n) (block_size n fits)
    (block_align n) fits (lit< tt)) $
    calls_at ! fm (Takes Z 𝓛 mem run) (met.allocate dd) y
    (and_then ! (get ! refl) (and_then ! (get ! refl) (and_then ! (lit ! tt) (no_more !)))) (λ v.
    use1 𝓛 (later (raw (Answered Z 𝓛 mem run h (block n) v) ⊛ ‵ (flft κ q))) (Takes-gives Z 𝓛 mem run κ q hp h n 1 (block n) v) $
    await ! tt $ split ! $
    answers Z ! mem run h (block n) v
    (λ b o e.
    -- [the room; the right to free it; the token; the others]
    lands_as ! e refl (Answer-typed true b o) $ first ! $ switches_on ! (get_tag ! (vrt ! refl (fld ! refl (stop !))) (whole !)) $
    exec ! 𝓣.C 𝓣.Λ Ev (arm_body 0 both) Then $
    sets ! (of_opd ! (get_in ! (vrt ! refl (fld ! refl (stop !))) (in_variant ! 0 0 refl refl (whole !)))) refl (tt, tt) $
    use1 𝓛 (‵ (places b o (zeros n) (empty n))) (to_places 𝓛 n b o) $ move ! (0 ∷ 2 ∷ []) $
    let From' = From 𝓛 mem run in let made : From'.Ghost = at_from 𝓛 mem run κ q b o n in
    use2 𝓛 (raw (From'.pre made)) (from_goes 𝓛 mem run κ q b o n small) $ first ! $ blocks ! $
    calls_at_last ! fm From' (callee.met 𝓤 𝓛 𝓜 𝓡 (code.calls-core::slots::Slots::from_raw_parts 𝓡.env wired) u8 byte.laws) made
    (and_then ! (get ! refl) (and_then ! (get ! refl) (no_more !))) (λ w.
    use1 𝓛 (later (some (λ (r : Row.Denot). given ((w ≡ row_val b o n)
    × Made b o n r) (‵ (Row.own_val r (row_val b o n ∷ [])) ⊛ ‵ (flft κ q))))) (from_gives 𝓛 mem run κ q b o n w) $ await ! tt $
    pick ! (λ r. learn ! (λ got. split ! $
    -- [the row; the token; the right to free it; the others]
    let row : WT (row_val b o n) = (tt, (record { fits = fits }, tt)) in let right : (Right Z).Denot =
    record { mark = record {}; at = block_ptr b o; len = n; alloc = h } in
    let pair : Val = pair_val (row_val b o n) mark in let typed : WT (live 0 (vcons pair vnil)) =
    (record { fits = lit< tt }, ((row, ((tt, tt), tt)), tt)) in
    lands_last ! refl (subst (λ (u : Val). T (has_ty (layout Row) u) × WT u) (sym got.0) (tt, row)) $
    exec ! 𝓣.C 𝓣.Λ Ev (after 2 (arm_body 0 both)) Then $
    sets ! (is ! (of_opd ! (get ! refl)) got.0) refl (tt, row) $ sets ! (of_opd ! (get ! refl)) refl (tt, row) $
    sets ! (agg ! (no_more !)) refl (tt, tt) $ sets ! (agg ! (and_then ! (get ! refl) (no_more !))) refl (tt, (tt, tt)) $
    sets ! (agg ! (and_then ! (get ! refl) (and_then ! (get ! refl) (no_more !)))) refl (tt, (row, ((tt, tt), tt))) $
    sets_last ! (agg ! (and_then ! (lit ! tt) (and_then ! (get ! refl) (no_more !)))) refl (tt, typed) $
    exec ! 𝓣.C 𝓣.Λ Ev (after 2 fn.body) (at_ret Ev Post) $ sets ! (of_opd ! (get ! refl)) refl (tt, typed) $
    move ! (2 ∷ []) $ use0 𝓛 (‵ ((Mark Z).own_val (tt, tt) (mark ∷ []))) (mark_made Z 𝓛) $ fjoin ! $ move ! (1 ∷ 0 ∷ []) $
    use2 𝓛 (‵ (Pair.own_val (r, right) (pair ∷ []))) (pair_of 𝓛 Row (Right Z) r right (row_val b o n) mark) $
    use1 𝓛 (‵ (Out.own_val (Ok (r, right)) (live 0 (vcons pair vnil) ∷ []))) (ok_of 𝓛 Pair AE.the_row (r, right) pair) $
    returns ! (look_at ! 0 refl) $ free_all ! refl $ exits (Ok (r, right)) (live 0 (vcons pair vnil)) (got.1.1, sym got.1.0, refl, refl)))))
    (λ e.
    let Refusal : RattleType = Struct (Declared.shape AE.the_type) in let none : Val = live 1 (vcons (vstruct vnil) vnil) in
    let typed : WT none = (record { fits = lit< tt }, (tt, tt)) in
    lands_as ! e refl (Answer-typed false 0 0) $ first ! $ switches_on ! (get_tag ! (vrt ! refl (fld ! refl (stop !))) (whole !)) $
    exec ! 𝓣.C 𝓣.Λ Ev (arm_body 1 both) Then $
    sets ! (of_opd ! (get_in ! (vrt ! refl (fld ! refl (stop !))) (in_variant ! 1 0 refl refl (whole !)))) refl (tt, tt) $
    sets_last ! (agg ! (and_then ! (lit ! tt) (and_then ! (get ! refl) (no_more !)))) refl (tt, typed) $
    exec ! 𝓣.C 𝓣.Λ Ev (after 2 fn.body) (at_ret Ev Post) $ sets ! (of_opd ! (get ! refl)) refl (tt, typed) $
    owned ! Refusal (Is Refusal) (Struct-Makes 𝓛 (Declared.shape AE.the_type) tt) tt (vstruct vnil ∷ []) (tt, (refl, tt)) $
    use1 𝓛 (‵ (Out.own_val (Err (record {})) (none ∷ []))) (err_of 𝓛 Pair AE.the_row (record {}) (vstruct vnil)) $
    returns ! (look_at ! 0 refl) $ free_all ! refl $ exits (Err (record {})) none tt))))))
