use Rattle.std.proofs.Common.{◌≡◌, ℕ, ◌≤◌, List, sym, ap, ◌∙◌, inl, inr, arith}
use Rattle.digest.specs.Words.{sums}
use Rattle.digest.specs.Rounds.{step}
use Rattle.digest.proofs.Turns.{turned_none, turned_from}
use Rattle.digest.proofs.Window.{compression_window}
use Rattle.digest.proofs.rounds.compressed.Goals as goal
use Rattle.digest.proofs.rounds.compressed.Goals.{then-ROUNDS-eq80, else-ROUNDS-eq80}

pub returns : goal.returns
returns g c =
    let k = g.C.Rounds in
    let law = g.met.C.Rounds in
    let turn = step k.round k.mixed in
    let h = k.hash c.args.h in
    let start : List ℕ × List ℕ = (h, c.args.words.now) in
    let by-16 = turned_from turn start 0 16 (turned_none turn start) c.sixteen_rounds-v.ensures in
    let by-32 = turned_from turn start 16 16 by-16 c.sixteen_rounds-v-2.ensures in
    let by-48 = turned_from turn start 32 16 by-32 c.sixteen_rounds-v-3.ensures in
    let by-64 = turned_from turn start 48 16 by-48 c.sixteen_rounds-v-4.ensures in
    let enough : 16 ≤ k.ROUNDS = elim law.counts [ inl e ↦ omega (arith, e) | inr e ↦ omega (arith, e) ] in
    c.plus.ensures ∙ elim c.if-ROUNDS-eq80.branch [
      | then-ROUNDS-eq80 w ↦
          let all : 80 ≡ k.ROUNDS = sym w.if-ROUNDS-eq80.true ∙ c.ROUNDS.ensures in
          let by-80 = turned_from turn start 64 16 by-64 w.sixteen_rounds-v-then-ROUNDS-eq80.ensures in
          ap (λ v. sums k.size (k.hash v) h) w.v-is ∙ compression_window k.round k.mixed law.reads k.ROUNDS h c.args.words.now enough c.told-words k.size _ _ 80 all by-80
      | else-ROUNDS-eq80 w ↦ elim law.counts [
        | inl all ↦ ap (λ v. sums k.size (k.hash v) h) w.v-is ∙ compression_window k.round k.mixed law.reads k.ROUNDS h c.args.words.now enough c.told-words k.size _ _ 64 (sym all) by-64
        | inr all ↦ absurd (w.if-ROUNDS-eq80.false (c.ROUNDS.ensures ∙ all))
      ]
    ]
