-- What a `Shown` owns can be had twice, so a `&` has it too. Assumes `Logic`.
use mathlib.Core.List.{[], ◌∷◌}
use base.Logic.{sep, wand, snd∗, apply∗}
use base.Fml.{fbor}
use base.Before.{before}
use types.Logic.{sem, lfts}
use types.Kit.{‵, raw, ◌⊛◌, later, ◌$◌, ◌∵◌, !, qed, move, keep, use1, use2, split, await, updating, now, done}
use denote.Struct.Lending.{of_Lends}
use Rattle.toml_edit_text.specs.contracts.shown.Shown as C
use Rattle.toml_edit_text.proofs.ShownLaws.{shown_dup}
use Rattle.toml_edit_text.proofs.shown.Shown.TheLaw.Statement.{statement}

pub shares : statement
shares =
    of_Lends C.struct C.the_codes C.the_heap C.the_lent
    (λ d p. record {
      contraction = λ M 𝓤 𝓛 _. shown_dup 𝓛 d.ptr d.items;
      mono = λ M 𝓤 𝓛 κ' κ. snd∗ 𝓤 (sem 𝓛 (before κ' κ)) (sem 𝓛 (C.the_heap d));
    })
    tt (λ M 𝓤 𝓛 d p κ ts inc sp.
    let bytes = C.the_heap d in let back = 𝓛.H.⇛ (sep 𝓤 (𝓛.A.bor κ bytes) (lfts 𝓛 ts)) in
    qed 𝓛 (‵ (fbor κ bytes) ∷ raw (lfts 𝓛 ts) ∷ []) ∵ updating ! $
    -- the bytes are taken out of the borrow, and a copy is put back
    use2 𝓛 (later (‵ bytes ⊛ raw (wand 𝓤 (sem 𝓛 bytes) back))) (𝓛.more.bor_acc_by κ ts bytes sp) $ await ! tt $ split ! $
    use1 𝓛 (‵ bytes ⊛ ‵ bytes) (shown_dup 𝓛 d.ptr d.items) $ split ! $ move ! (0 ∷ 2 ∷ []) $
    use2 𝓛 (later (‵ (fbor κ bytes) ⊛ raw (lfts 𝓛 ts))) (apply∗ 𝓤 (sem 𝓛 bytes) back) $ await ! tt $ split ! $
    keep ! (2 ∷ 1 ∷ []) $ now ! $ done !)
