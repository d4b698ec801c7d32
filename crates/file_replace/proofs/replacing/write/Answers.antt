use Rattle.std.proofs.Common.{[], ◌∷◌}
use Rattle.file_replace.specs.Events.{likened, synced, wrote}
use Rattle.file_replace.proofs.Asked.{asks_fails, asks_last, asks_then, done_noted, failed_noted}
use Rattle.file_replace.proofs.replacing.write.Goals as goal

pub returns-in_err-write : goal.returns-in_err-write
returns-in_err-write g c =
    asks_then (likened c.args.asked.now.name.now c.args.asked.now.force) (wrote c.args.asked.now.text.now ∷ synced ∷ []) _ _ _ _
    (done_noted _ _ _ _ _ c.liken.ensures c.in_ok-liken.was)
    (asks_fails (wrote c.args.asked.now.text.now) (synced ∷ []) _ _ _ (failed_noted _ _ _ _ _ c.write.ensures c.in_err-write.was)
    c.from_residual-in_err-write.ensures.0)

pub returns : goal.returns
returns g c =
    asks_then (likened c.args.asked.now.name.now c.args.asked.now.force) (wrote c.args.asked.now.text.now ∷ synced ∷ []) _ _ _ _
    (done_noted _ _ _ _ _ c.liken.ensures c.in_ok-liken.was)
    (asks_then (wrote c.args.asked.now.text.now) (synced ∷ []) _ _ _ _ (done_noted _ _ _ _ _ c.write.ensures c.in_ok-write.was)
    (asks_last synced _ _ _ c.sync.ensures))
