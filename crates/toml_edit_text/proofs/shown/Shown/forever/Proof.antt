-- `forever` keeps what a slice that lives for ever shows. Assumes `Logic`.
use Rattle.std.proofs.Common.{◌^◌, ◌<◌, ℕ, List, [], ◌∷◌, ◌++◌, length, refl, arith}
use seplogic.Ra.Ura.{Ura}
use mir.Val.{Val, vptr, vstruct, vcons, vnil}
use base.Logic.{ent}
use prog.Wp.{WpFn}
use contract.Running.{tables}
use types.Logic.{Logic, sem}
use types.Kit.{‵, raw, ◌⊛◌, prop, ◌$◌, ◌∵◌, !, qed, move, keep, split, fsplit, fjoin, fpack, feq_l, feq_i, flt_l, regoal, use1, suffices}
use types.Kit.{done}
use types.Part.{agg, sub, whole}
use types.Run.{enter, returns, and_then, no_more, fld, stop, addr, from, hop}
use types.ByLocal.{alloc_all, pass_all, free_all, look_at, get, sets, look_in_at}
use denote.Builtin.{u8, RawPtr, SliceRefOf}
use denote.Exit.{yes}
use denote.Opens.{unhide}
use denote.RattleType.{RattleType, Valss, owns}
use denote.RawPtr.{block_ptr}
use denote.Signature.{plain, types_at}
use denote.Slice.{slice_val, elements_shared}
use denote.Steps.{nothing}
use denote.Struct.Struct.{within}
use denote.Struct.Tuple.{Tuple}
use denote.Triple.Entry.{alive}
use denote.Triple.Walked.{says, Stays, walk_of, stay_dropped, Goes-dropped, ends_at}
use Rattle.std.proofs.raw_atomic.Walks.{proved_at}
use Rattle.toml_edit_text.specs.contracts.shown.Shown as Shown
use Rattle.toml_edit_text.specs.contracts.shown.Shown.forever as f
use Rattle.toml_edit_text.proofs.shown.Shown.forever.Statement.{statement}
use Rattle.toml_edit_text.proofs.shown.Shown.forever.Code as code

-- how the machine has a `Shown`, which takes no memory, and the pair that is returned
abbrev nil : Val
nil = vstruct vnil

abbrev pair : ℕ → ℕ → Val
pair b o = vstruct (vcons (vptr b o) (vcons nil vnil))

abbrev made : (b o : ℕ) (xs : List ℕ) → length xs < 2 ^ 63 → Shown.the_row.Denot
made b o xs small = record { ptr = block_ptr b o; items = xs; placed = (refl, small) }

abbrev Pair : RattleType
Pair = Tuple (RawPtr ∷ Shown.the_row ∷ [])

pair_made : {M : Type 1} {𝓤 : Ura M} (𝓛 : Logic 𝓤) (b o : ℕ) (xs : List ℕ) (small : length xs < 2 ^ 63)
    → ent 𝓤 (sem 𝓛 (elements_shared u8 xs b o [])) (sem 𝓛 (Pair.own_val (block_ptr b o, made b o xs small) (pair b o ∷ [])))
pair_made 𝓛 b o xs small =
    let x = made b o xs small in
    qed 𝓛 (‵ (elements_shared u8 xs b o []) ∷ []) ∵ nothing ! $ feq_i ! (List Val) (nil ∷ []) (nil ∷ []) refl $ fjoin ! $
    fpack ! (Valss []) (within (record { name = []; args = []; types = []; fields = [] }) tt (nil ∷ [])) tt $ fjoin ! $
    nothing ! $ move ! (1 ∷ 0 ∷ []) $ fjoin ! $ feq_i ! (List Val) (vptr b o ∷ []) (vptr b o ∷ []) refl $ fjoin ! $
    feq_i ! (List Val) (pair b o ∷ []) (pair b o ∷ []) refl $ fjoin ! $
    fpack ! (Valss (RawPtr ∷ Shown.the_row ∷ [])) (within (record {
      name = [];
      args = [];
      types = [];
      fields = RawPtr ∷ Shown.the_row
          ∷ [];
    }) (block_ptr b o, (x, tt)) (pair b o ∷ [])) (vptr b o ∷ [], (nil ∷ [], tt)) $ done !

abbrev stayed : Stays f.ended.signature.params f.ended.kept
stayed = (stay_dropped (SliceRefOf [] tt (plain (λ _. u8)) (λ _. tt)) yes, tt)

pub forever_spec : {M : Type 1} → statement M
forever_spec 𝓤 𝓛 𝓜 𝓡 wired =
    let c = f.clauses 𝓛 𝓜.mem 𝓡.returns in let W = walk_of 𝓛 f.ended stayed c in let 𝓣 = tables 𝓤 𝓛.H 𝓜 𝓡 𝓡.env in let fn = code.function in
    proved_at 𝓛 f.ended stayed c 𝓜 𝓡 (Goes-dropped 𝓛 0 (SliceRefOf [] tt (plain (λ _. u8)) (λ _. tt)) yes (λ κs x w. refl), tt)
    f.Key.name fn (code.unfolded 𝓤 𝓛.H 𝓜 𝓡 wired) (λ y are.
    let κs = y.0.0 in let b = y.0.3.0.ref_ptr.0 in let o = y.0.3.0.ref_ptr.1 in let xs = y.0.3.0.now in
    qed 𝓛 ((raw (alive 𝓛 f.signature κs y.0.1) ⊛ ‵ (owns (types_at f.signature.params κs) y.0.3 y.0.4)) ∷ raw ((c κs y.0.3).requires y.1)
    ∷ []) ∵
    split ! $ move ! (1 ∷ []) $ fsplit ! $ fsplit ! $ fsplit ! $ feq_l ! (λ is. fsplit ! $ flt_l ! (λ count. flt_l ! (λ size. unhide ! $
    regoal ! (λ (us : List Val). prop (WpFn 𝓤 𝓛.H 𝓣.C 𝓣.Λ fn (us ++ []) (W.post y))) is refl $
    enter ! 𝓣.C 𝓣.Λ fn (slice_val (b, o) (length xs) ∷ []) (W.post y) $
    alloc_all ! (λ l. pass_all ! refl ((tt, (tt, (record { fits = count }, tt))), tt) $
    -- [the bytes, shown for ever; ..]
    sets ! (addr ! (from ! (fld ! refl (hop ! (look_in_at ! 1 (sub ! 0 refl (whole !))) (stop !))))) refl (tt, tt) $
    sets ! (agg ! (no_more !)) refl (tt, tt) $
    sets ! (agg ! (and_then ! (get ! refl) (and_then ! (get ! refl) (no_more !)))) refl (tt, (tt, (tt, tt))) $
    let small : length xs < 2 ^ 63 = omega (arith, size) in
    use1 𝓛 (‵ (Pair.own_val (block_ptr b o, made b o xs small) (pair b o ∷ []))) (pair_made 𝓛 b o xs small) $
    returns ! (look_at ! 0 refl) $ free_all ! refl $
    keep ! (0 ∷ 2 ∷ []) $ suffices ! _ (ends_at 𝓛 f.ended stayed c y (pair b o) (block_ptr b o, made b o xs small) (tt, tt) (tt, tt)) $
    says ! (refl, refl) $ nothing ! $ nothing ! $ fjoin ! $ move ! (2 ∷ 0 ∷ 1 ∷ []) $ done !)))))
