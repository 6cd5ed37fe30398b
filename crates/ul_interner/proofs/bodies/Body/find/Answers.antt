use Rattle.std.proofs.Common.{arith, refl, ap, sym, ◌∙◌, ◌≡◌, ◌<◌, ◌-◌, ℕ, Bool, true, false, IsTrue, length, slice_index, suc, Some}
use Rattle.std.specs.List.{slice_get}
use Rattle.std.proofs.lemmas.Option.{slice_get_read}
use Rattle.ul_interner.specs.Marked.{Marked, stored_hash, IsNode}
use Rattle.ul_interner.specs.Index.{bucket_of}
use Rattle.ul_interner.proofs.Indexing.{walk_begins, walk_goes, walk_less, get_or_any}
use Rattle.ul_interner.proofs.bodies.Body.find.Goals as goal
use Rattle.ul_interner.proofs.bodies.Body.find.Goals.{else-hash-via-then-hash+else-is_node, else-hash-via-else-hash}

is_true : (b : Bool) → b ≡ true → IsTrue b
is_true b e = grind arith

untrue : (b : Bool) → b ≡ false → IsTrue b → ⊥
untrue b e t = grind arith

pub loop-next-init : goal.loop-next-init
loop-next-init g c =
    let s = c.self.inside in
    let count = length s.newest.items in
    let is_b : c.bucket.result ≡ bucket_of count c.args.hash = c.bucket.ensures.bucket ∙ ap (λ z. bucket_of z c.args.hash) (let e : c.len.result ≡ count = omega (arith, c.len.ensures, s.newest.ok.0) in e) in
    let low : c.bucket.result < count = omega (arith, c.bucket.ensures.below, c.len.ensures, s.newest.ok.0) in
    walk_begins s.marks.items count (IsNode c.args.label.now c.args.parts.now) c.args.hash (bucket_of count c.args.hash) s.older.items s.newest.items c.index-next.result.now refl c.self.invariant
    (λ i m e q. c.requires i m (ap (λ z. slice_get z i) (sym c.self.view_is) ∙ e) q) refl (omega (arith, is_b, low))
    (c.index-next.ensures ∙ (get_or_any s.newest.items c.bucket.result c.index-next.result.now 0 low ∙ ap (slice_index s.newest.items) is_b))

pub returns-then-is_node-clause-some : goal.returns-then-is_node-clause-some
returns-then-is_node-clause-some g c =
    let s = c.self.inside in (
      c.index-mark.result.now,
      ap (λ z. slice_get z (c.loop-next.next - 1)) (sym c.self.view_is)
          ∙ slice_get_read s.marks.items (length s.marks.items) (c.loop-next.next - 1) c.index-mark.result.now refl (omega (arith, c.loop-next.invariant.within, c.loop-next-test.true)) c.index-mark.ensures,
      c.is_node.ensures.0 (is_true _ c.if-is_node.true),
    )

pub loop-next-smaller : goal.loop-next-smaller
loop-next-smaller g c =
    let s = c.self.inside in
    let p = c.loop-next.next - 1 in
    let w = c.loop-next.invariant in
    let inside : suc p ≡ c.loop-next.next = omega (arith, c.loop-next-test.true) in
    omega (
      arith,
      walk_less s.marks.items (length s.newest.items) (IsNode c.args.label.now c.args.parts.now) c.args.hash (bucket_of (length s.newest.items) c.args.hash) s.older.items s.newest.items p c.index-next-in-loop-next.result.now c.self.invariant (omega (arith, inside, w.within))
          (c.index-next-in-loop-next.ensures ∙ get_or_any s.older.items p c.index-next-in-loop-next.result.now 0 (omega (arith, c.self.invariant.long, inside, w.within))),
      inside,
    )

pub loop-next-preserved : goal.loop-next-preserved
loop-next-preserved g c =
    let s = c.self.inside in
    let p = c.loop-next.next - 1 in
    let w = c.loop-next.invariant in
    let Q : Marked g.row.L.Denot → Type 0 = IsNode c.args.label.now c.args.parts.now in
    let inside : suc p ≡ c.loop-next.next = omega (arith, c.loop-next-test.true) in
    let hashed : (i : ℕ) (m : Marked g.row.L.Denot) → slice_get s.marks.items i ≡ Some m → Q m → stored_hash m ≡ c.args.hash = λ i m e q. c.requires i m (ap (λ z. slice_get z i) (sym c.self.view_is) ∙ e) q in
    let here : slice_get s.marks.items p ≡ Some c.index-mark.result.now = slice_get_read s.marks.items (length s.marks.items) p c.index-mark.result.now refl (omega (arith, inside, w.within)) c.index-mark.ensures in
    let not : ¬ Q c.index-mark.result.now = λ q. elim c.else-hash.branch [
      | else-hash-via-then-hash+else-is_node v ↦ untrue _ v.if-is_node.false (v.is_node.ensures.1 q)
      | else-hash-via-else-hash v ↦ v.if-hash.false (c.hash.ensures ∙ hashed p c.index-mark.result.now here q)
    ] in
    walk_goes s.marks.items (length s.newest.items) Q c.args.hash (bucket_of (length s.newest.items) c.args.hash) s.older.items s.newest.items p c.loop-next.next c.index-next-in-loop-next.result.now c.index-mark.result.now refl c.self.invariant hashed refl w (sym inside) c.index-mark.ensures not
    (c.index-next-in-loop-next.ensures ∙ get_or_any s.older.items p c.index-next-in-loop-next.result.now 0 (omega (arith, c.self.invariant.long, inside, w.within)))
