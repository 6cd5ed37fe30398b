use Rattle.std.proofs.Common.{ℕ, ◌+◌, List, Option, take, length, ◌-◌, drop, rules, sym, ap, subst}
use Rattle.std.proofs.Math.Seq.{take-add}
use Rattle.std.proofs.KnownBytes.{Appends-trans}
use Rattle.std.proofs.lemmas.List.{take_rest}
use Rattle.std.specs.Io.KnownBytes.{Appends}
use Rattle.ul_edge.proofs.writing.write_all.Goals as goal

-- a part of what is behind a front, appended behind that front
part_more : (a b c : Option (List ℕ)) (piece : List ℕ) (n k : ℕ) → Appends a b (take n piece)
    → Appends b c (take k (take (length piece - n) (drop n piece))) → Appends a c (take (n + k) piece)
part_more a b c piece n k p q =
    let rest = ap (take k) (take_rest piece n) in
    subst (Appends a c) (sym (take-add n k piece)) (Appends-trans a b c (take n piece) (take k (drop n piece)) p (subst (Appends b c) rest q))

-- a write took a part more
pub loop-written-preserved : goal.loop-written-preserved
loop-written-preserved g c =
    let wrote = c.in_ok-written.ensures in
    (search rules, search rules, part_more _ _ _ c.args.piece.now c.loop-written.written c.in_ok-written.field-0 c.loop-written.invariant.2 wrote.bytes)
