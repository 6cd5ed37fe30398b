-- What is written, piece by piece.
use Rattle.std.proofs.Common.{◌≡◌, ℕ, suc, ◌+◌, List, ◌++◌, append_assoc, sym, ap, arith, ◌∙◌}
use Rattle.std.specs.Prelude.{Option, codes, decimal}
use Rattle.ul_gen.specs.declared.documents.Need.{Need}
use Rattle.ul_gen.specs.Texts.{name_text, wants, text_below, fork_line, entry_text, entries_text, needs_at, needs_text, joined_text}

-- a further number
pub below_next : (f : ℕ → List ℕ) (k : ℕ) → text_below f (k + 1) ≡ text_below f k ++ f k
below_next f k =
    let more : k + 1 ≡ suc k = omega arith in
    ap (text_below f) more

-- pieces written one behind the other, as the code has them
pub two_put : (o a b x y : List ℕ) → a ≡ o ++ x → b ≡ a ++ y → b ≡ o ++ (x ++ y)
two_put o a b x y p q = q ∙ (ap (λ z. z ++ y) p ∙ append_assoc o x y)

pub three_put : (o a b c x y z : List ℕ) → a ≡ o ++ x → b ≡ a ++ y → c ≡ b ++ z → c ≡ o ++ (x ++ (y ++ z))
three_put o a b c x y z p q r = two_put o a c x (y ++ z) p (two_put a b c y z q r)

pub five_put : (o a b c d e v w x y z : List ℕ) → a ≡ o ++ v → b ≡ a ++ w → c ≡ b ++ x → d ≡ c ++ y → e ≡ d ++ z → e ≡ o ++ (v ++ (w ++ (x ++ (y ++ z))))
five_put o a b c d e v w x y z p q r s t = two_put o a e v (w ++ (x ++ (y ++ z))) p (two_put a b e w (x ++ (y ++ z)) q (three_put b c d e x y z r s t))

six : (o p n a d q z : List ℕ) → ((((o ++ p) ++ n) ++ a) ++ d) ++ (q ++ z) ≡ o ++ (p ++ ((n ++ (a ++ (d ++ q))) ++ z))
six o p n a d q z = simp append_assoc

pub condition_written : (o condition : List ℕ) (k : ℕ) → ((((o ++ codes "    \"") ++ name_text k) ++ condition) ++ decimal (10 + k)) ++ codes "'\",\n" ≡ o ++ fork_line condition k
unfolding fork_line
condition_written o condition k = six o (codes "    \"") (name_text k) condition (decimal (10 + k)) (codes "'") (codes "\",\n")

pub entry_put : (o a b c d e : List ℕ) (seed size k version : ℕ) → a ≡ o ++ codes "{\"version\":\"" → b ≡ a ++ decimal version → c ≡ b ++ codes "\",\"requires_dist\":[" → d ≡ c ++ needs_text seed size k version → e ≡ d ++ codes "]}" → e ≡ o ++ entry_text seed size k version
unfolding entry_text
entry_put o a b c d e seed size k version =
    five_put o a b c d e (codes "{\"version\":\"") (decimal version) (codes "\",\"requires_dist\":[") (needs_text seed size k version) (codes "]}")

-- the first three entries with their commas, and the last
pub entries_put : (o a b c d e f g : List ℕ) (seed size k : ℕ) → a ≡ o ++ entry_text seed size k 1 → b ≡ a ++ codes "," → c ≡ b ++ entry_text seed size k 2 → d ≡ c ++ codes "," → e ≡ d ++ entry_text seed size k 3 → f ≡ e ++ codes "," → g ≡ f ++ entry_text seed size k 4 → g ≡ o ++ entries_text seed size k
unfolding entries_text
entries_put o a b c d e f g seed size k p q r s t u v =
    three_put o a b g (entry_text seed size k 1) (codes ",") (entry_text seed size k 2 ++ (codes "," ++ (entry_text seed size k 3 ++ (codes "," ++ entry_text seed size k 4)))) p q
    (three_put b c d g (entry_text seed size k 2) (codes ",") (entry_text seed size k 3 ++ (codes "," ++ entry_text seed size k 4)) r s
    (three_put d e f g (entry_text seed size k 3) (codes ",") (entry_text seed size k 4) t u v))

-- ---- requirements

-- what stands for two requirements, where they are known
pub wants_joined : (seed size k version : ℕ) (a b first second : Option Need) → wants a ≡ needs_at seed size k version 0 → wants b ≡ needs_at seed size k version 1 → a ≡ first → b ≡ second → joined_text (wants first ++ wants second) ≡ needs_text seed size k version
unfolding needs_text
wants_joined seed size k version a b first second p q is_first is_second =
    ap (λ z. joined_text (z ++ wants second)) (sym (ap wants is_first) ∙ p) ∙ ap (λ z. joined_text (needs_at seed size k version 0 ++ z)) (sym (ap wants is_second) ∙ q)
