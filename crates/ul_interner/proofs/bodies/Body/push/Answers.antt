use Rattle.std.proofs.Common.{arith, refl, ap, ◌∙◌, ◌≡◌, ◌<◌, ◌++◌, ◌∷◌, [], length}
use Rattle.std.proofs.lemmas.List.{length-append}
use Rattle.ul_interner.specs.Index.{bucket_of}
use Rattle.ul_interner.proofs.Indexing.{indexed_more, get_or_any}
use Rattle.ul_interner.proofs.bodies.Body.push.Goals as goal

pub invariant_of-self-2 : goal.invariant_of-self-2
invariant_of-self-2 g c =
    let s = c.self.inside in
    let count = length s.newest.items in
    let len : c.len.result ≡ count = omega (arith, c.len.ensures, s.newest.ok.0) in
    let is_b : c.bucket-bucket.result ≡ bucket_of count c.hash.result = c.bucket-bucket.ensures.bucket ∙ ap (λ z. bucket_of z c.hash.result) len in
    let low : c.bucket-bucket.result < count = omega (arith, c.bucket-bucket.ensures.below, len) in
    let more = c.push_reserved-2.ensures.items ∙ (ap (λ z. z ++ c.in_ok-own.own ∷ []) c.reserve.ensures.items ∙ ap (λ m. s.marks.items ++ m ∷ []) c.in_ok-own.ensures) in
    indexed_more s.marks.items _ s.older.items _ s.newest.items _ c.args.mark.now c.hash.result c.bucket-bucket.result c.index.result.now c.len-2.result c.self.invariant c.hash.ensures is_b low
    (c.index.ensures ∙ get_or_any s.newest.items c.bucket-bucket.result c.index.result.now 0 low) more
    (c.push_reserved.ensures.items ∙ ap (λ z. z ++ c.index.result.now ∷ []) c.reserve-2.ensures.items)
    (omega (arith, c.len-2.ensures, c.push_reserved-2.new.self.ok.0, ap length more, length-append s.marks.items (c.args.mark.now ∷ []))) refl
