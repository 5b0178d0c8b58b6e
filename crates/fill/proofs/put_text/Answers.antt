use native.Mathlib.Omega.{arith}
use Rattle.fill.proofs.Made.{text-put}
use Rattle.fill.proofs.put_text.Goals as goal

pub returns : goal.returns
returns c =
    let a = c.args in
    text-put a.dst.now a.at a.width a.t.now _ _ (omega arith) (omega arith) c.part.ensures c.put_padded.ensures.1
