-- Rounds and the message schedule, which SHA-1 and SHA-256 share, as FIPS 180-4 defines them.
use Rattle.std.specs.Prelude.{ℕ, zero, suc, ◌-◌, ◌%◌, ◌<◌, ◌≤◌, ◌≡◌, cond, List, [], ◌∷◌, ◌++◌, nat_lt, slice_index, slice_set}
use Rattle.digest.specs.Words.{sums}

-- what the turns 0 to n - 1 make of x
unfoldable pub turned : {X : Type 0} → (X → ℕ → X) → X → ℕ → X
turned turn x zero = x
turned turn x (suc t) = turn (turned turn x t) t

-- the first n of the words of which each follows from those before it
unfoldable pub grown : (List ℕ → ℕ → ℕ) → ℕ → List ℕ
grown next zero = []
grown next (suc t) = grown next t ++ (next (grown next t) t ∷ [])

-- The word t of the message schedule, from the words ws before it: a word of the block for t below 16, and after that
-- a mix of earlier words. `mixed` is a digest's own mix; it is given the function that tells the word k places back.
abbrev pub scheduled : ((ℕ → ℕ) → ℕ) → List ℕ → List ℕ → ℕ → ℕ
scheduled mixed block ws t = cond (nat_lt t 16) (slice_index block t) (mixed (λ k. slice_index ws (t - k)))

-- the message schedule of n words
abbrev pub schedule : ((ℕ → ℕ) → ℕ) → ℕ → List ℕ → List ℕ
schedule mixed n block = grown (scheduled mixed block) n

-- the working variables after n rounds over the words ws; `round` is a digest's own round: variables, number, word
abbrev pub rounds : (List ℕ → ℕ → ℕ → List ℕ) → List ℕ → ℕ → List ℕ → List ℕ
rounds round ws n h = turned (λ v t. round v t (slice_index ws t)) h n

-- The compression of a block into a hash value of `size` words, by n rounds: the working variables begin as the hash
-- value, and are added to it at the end.
unfoldable pub compression : (List ℕ → ℕ → ℕ → List ℕ) → ((ℕ → ℕ) → ℕ) → ℕ → ℕ → List ℕ → List ℕ → List ℕ
compression round mixed n size h block = sums size (rounds round (schedule mixed n block) n h) h

-- The schedule in sixteen words: the word t stands at the place t % 16, where the word t - 16 stood before.
abbrev pub renewed : ((ℕ → ℕ) → ℕ) → List ℕ → ℕ → List ℕ
renewed mixed w t = cond (nat_lt t 16) w (slice_set w (t % 16) (mixed (λ k. slice_index w ((t - k) % 16))))

-- the round t, over working variables and the sixteen words
unfoldable pub step : (List ℕ → ℕ → ℕ → List ℕ) → ((ℕ → ℕ) → ℕ) → List ℕ × List ℕ → ℕ → List ℕ × List ℕ
step round mixed s t = (round s.0 t (slice_index (renewed mixed s.1 t) (t % 16)), renewed mixed s.1 t)

-- a mix reads no word but the sixteen before its own
abbrev pub ReadsSixteen : ((ℕ → ℕ) → ℕ) → Type 0
ReadsSixteen mixed = (f g : ℕ → ℕ) → ((k : ℕ) → 0 < k → k ≤ 16 → f k ≡ g k) → mixed f ≡ mixed g
