-- Two spellings of one text with parts of equal lengths are one version.
use Rattle.std.proofs.Common.{◌≡◌, ℕ, List, [], ◌∷◌, ◌++◌, length, refl, sym, ap, ◌∙◌, arith, inl, inr, Option, Some, None}
use Rattle.std.specs.Prelude.{codes}
use Rattle.ul_version.specs.Grammar.{IsOptionalNum, IsOptionalSeparator, IsPre, IsPost, IsDev}
use Rattle.ul_version.specs.Laws.{SpellingsAreOne}
use Rattle.ul_version.specs.Reading.{epoch, marked_digits, after_word, release, pre, kind_words, suffix_number, after_optional, is_separator, post, post_words, dev, local}
use Rattle.ul_version.specs.declared.fields.Pre.{Pre}
use Rattle.ul_version.proofs.RoundTrip.{first_digit, number-digits, digit-separator}
use Rattle.ul_version.proofs.Spelling.{cut_same, inside}
use Rattle.ul_version.proofs.Complete.{Last, FromDev, FromPost, FromPre, FromPre-ends, epoch-read, release-read, local-read, opens-other, marked-letter, optional-number, word-opens, suffix-lettered, suffix-optional, dev_words, dev-word, post-word, marked-dash, kind-letters, kind-word}
use Rattle.ul_version.proofs.Words.{one_of}

-- ---- a part that stands alone is read whole

number-alone : (between digits : List ℕ) (n : ℕ) → IsOptionalSeparator between → IsOptionalNum digits n →
    suffix_number (between ++ (digits ++ [])) ≡ Some (n, [])
number-alone between digits n (inr (c, one, sep)) d = rw (one, sep) (optional-number digits [] n d refl)
number-alone between digits n (inl none) (inl (empty, absent)) =
    rw (none, empty, absent) (optional-number [] [] 0 (inl (refl, refl)) refl)
number-alone between digits n (inl none) (inr num) =
    let d = first_digit digits num.nonempty num.digits in
    let kept : after_optional is_separator (digits ++ []) ≡ digits ++ [] = rw (d.shape, digit-separator d.first d.digit) refl in
    rw (none, kept) (number-digits digits [] n num.digits num.value num.fits refl)

pre-alone : (part : List ℕ) (value : Option Pre) → IsPre part value → pre (part ++ []) ≡ Some (value, [])
unfolding pre after_word
pre-alone part None h = rw h refl
pre-alone part (Some p) h =
    let u = h.between ++ (h.digits ++ []) in
    let o = word-opens h.between h.digits [] p.number h.is_between h.are_digits refl in
    rw (
      suffix-optional (kind_words p.kind) part [] p.number (kind-letters p.kind) h,
      kind-word p.kind h.word u (one_of (kind_words p.kind) h.word h.is_word) o,
      number-alone h.between h.digits p.number h.is_between h.are_digits,
    ) refl

post-alone : (part : List ℕ) (value : Option ℕ) → IsPost part value → post (part ++ []) ≡ Some (value, [])
unfolding post marked_digits after_word
post-alone part None h = rw h refl
post-alone part (Some n) (inl (digits, num, dash)) =
    rw (dash, marked-dash digits [] n num, number-digits digits [] n num.digits num.value num.fits refl) refl
post-alone part (Some n) (inr h) =
    let u = h.between ++ (h.digits ++ []) in
    let l = suffix-lettered post_words part [] n refl h in
    let no_dash : marked_digits (codes "-") (part ++ []) ≡ None =
    rw l.shape (marked-letter 45 l.before l.first l.others (omega arith) l.is_before l.letter) in
    let other = opens-other u 101 (word-opens h.between h.digits [] n h.is_between h.are_digits refl) refl in
    rw (
      no_dash,
      suffix-optional post_words part [] n refl h,
      post-word h.word u (one_of post_words h.word h.is_word) other,
      number-alone h.between h.digits n h.is_between h.are_digits,
    ) refl

dev-alone : (part : List ℕ) (value : Option ℕ) → IsDev part value → dev (part ++ []) ≡ Some (value, [])
unfolding dev after_word
dev-alone part None h = rw h refl
dev-alone part (Some n) h =
    rw (
      suffix-optional dev_words part [] n refl h,
      dev-word h.word (h.between ++ (h.digits ++ [])) (one_of dev_words h.word h.is_word),
      number-alone h.between h.digits n h.is_between h.are_digits,
    ) refl

-- ---- fronts of equal lengths

same_cut : (front rest part after : List ℕ) → front ++ rest ≡ part ++ after → length front ≡ length part → (front ≡ part) × (rest ≡ after)
same_cut [] rest [] after e l = (refl, e)
same_cut [] rest (c ∷ part) after e l = absurd (omega (arith, l))
same_cut (b ∷ front) rest [] after e l = absurd (omega (arith, l))
same_cut (b ∷ front) rest (c ∷ part) after e l =
    let first : b ≡ c = cc in
    let others : front ++ rest ≡ part ++ after = cc in
    let same = same_cut front rest part after others (omega (arith, l)) in
    ((λ i. first i ∷ same.0 i), same.1)

-- ---- the law

pub spellings : SpellingsAreOne
spellings text f g s o e =
    let last : Last s.local = record { segments = f.local; is_local = s.is_local } in
    let d : FromDev (s.dev ++ s.local) = record { value = f.dev; part = s.dev; rest = s.local; is_part = s.is_dev; last = last; whole = refl } in
    let q : FromPost (s.post ++ (s.dev ++ s.local)) = record { value = f.post; part = s.post; rest = s.dev ++ s.local; is_part = s.is_post; later = d; whole = refl } in
    let tail = s.pre ++ (s.post ++ (s.dev ++ s.local)) in
    let p : FromPre tail = record { value = f.pre; part = s.pre; rest = s.post ++ (s.dev ++ s.local); is_part = s.is_pre; later = q; whole = refl } in
    let ends = FromPre-ends tail p in
    let last2 : Last o.local = record { segments = g.local; is_local = o.is_local } in
    let d2 : FromDev (o.dev ++ o.local) = record { value = g.dev; part = o.dev; rest = o.local; is_part = o.is_dev; last = last2; whole = refl } in
    let q2 : FromPost (o.post ++ (o.dev ++ o.local)) = record { value = g.post; part = o.post; rest = o.dev ++ o.local; is_part = o.is_post; later = d2; whole = refl } in
    let tail2 = o.pre ++ (o.post ++ (o.dev ++ o.local)) in
    let p2 : FromPre tail2 = record { value = g.pre; part = o.pre; rest = o.post ++ (o.dev ++ o.local); is_part = o.is_pre; later = q2; whole = refl } in
    let ends2 = FromPre-ends tail2 p2 in
    let l0 : length s.letter ≡ length o.letter = cc in
    let l1 : length s.epoch ≡ length o.epoch = cc in
    let l2 : length s.release ≡ length o.release = cc in
    let l3 : length s.pre ≡ length o.pre = cc in
    let l4 : length s.post ≡ length o.post = cc in
    let l5 : length s.dev ≡ length o.dev = cc in
    let c0 = same_cut s.letter (s.epoch ++ (s.release ++ tail)) o.letter (o.epoch ++ (o.release ++ tail2)) (sym s.spelling ∙ o.spelling) l0 in
    let c1 = same_cut s.epoch (s.release ++ tail) o.epoch (o.release ++ tail2) c0.1 l1 in
    let c2 = same_cut s.release tail o.release tail2 c1.1 l2 in
    let c3 = same_cut s.pre (s.post ++ (s.dev ++ s.local)) o.pre (o.post ++ (o.dev ++ o.local)) c2.1 l3 in
    let c4 = same_cut s.post (s.dev ++ s.local) o.post (o.dev ++ o.local) c3.1 l4 in
    let c5 = same_cut s.dev s.local o.dev o.local c4.1 l5 in
    let epochs = (cut_same f.epoch g.epoch _ _ (sym (epoch-read s.epoch f.epoch s.release f.release tail s.is_epoch s.is_release ends)
    ∙ (ap epoch c0.1 ∙ epoch-read o.epoch g.epoch o.release g.release tail2 o.is_epoch o.is_release ends2))).0 in
    let releases = (cut_same f.release g.release _ _ (sym (release-read s.release f.release tail s.is_release ends)
    ∙ (ap release c1.1 ∙ release-read o.release g.release tail2 o.is_release ends2))).0 in
    let pres = (cut_same f.pre g.pre _ _ (sym (pre-alone s.pre f.pre s.is_pre) ∙ (ap (λ (t : List ℕ). pre (t ++ [])) c3.0 ∙ pre-alone o.pre g.pre o.is_pre))).0 in
    let posts = (cut_same f.post g.post _ _ (sym (post-alone s.post f.post s.is_post) ∙ (ap (λ (t : List ℕ). post (t ++ [])) c4.0 ∙ post-alone o.post g.post o.is_post))).0 in
    let devs = (cut_same f.dev g.dev _ _ (sym (dev-alone s.dev f.dev s.is_dev) ∙ (ap (λ (t : List ℕ). dev (t ++ [])) c5.0 ∙ dev-alone o.dev g.dev o.is_dev))).0 in
    let locals = inside f.local g.local (sym (local-read s.local f.local s.is_local) ∙ (ap local c5.1 ∙ local-read o.local g.local o.is_local)) in
    λ i. record { epoch = epochs i; release = releases i; pre = pres i; post = posts i; dev = devs i; local = locals i }
