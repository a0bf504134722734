-- Reading the faults of codes from the left.
use Rattle.std.proofs.Common.{◌≡◌, ℕ, ◌+◌, ◌<◌, ◌≤◌, true, leb, List, [], ◌∷◌, ◌++◌, length, get_or, drop, Some, None, Option, sym, refl, ap, ◌∙◌, append_assoc, arith}
use Rattle.std.specs.Option.{option_map}
use Rattle.std.proofs.lemmas.List.{at_drop_more, at_drop_all, append-nil}
use Rattle.std.proofs.lemmas.Bool.Decides.{nat_tests}
use Rattle.cloud_faulty.specs.declared.fault.Fault.{Fault}
use Rattle.cloud_faulty.specs.Faults.{fault_of, joined, faults_of, script_of}

-- the faults so far, with those of the rest after them
abbrev pub Read : List ℕ → ℕ → List Fault → Type 0
Read codes i faults = faults_of codes ≡ option_map (λ fs. faults ++ fs) (faults_of (drop i codes))

mapped_after : (gs : List Fault) (f : Fault) (o : Option (List Fault)) → option_map (λ fs. gs ++ fs) (option_map (λ fs. f ∷ fs) o) ≡ option_map (λ fs. (gs ++ (f ∷ [])) ++ fs) o
mapped_after gs f None = refl
mapped_after gs f (Some fs) = ap Some (sym (append_assoc gs (f ∷ []) fs))

module _ (codes : List ℕ) (i : ℕ) (faults : List Fault) (before : Read codes i faults) where
  -- the next code
  ahead : i < length codes → faults_of (drop i codes) ≡ joined (fault_of (get_or codes i 0)) (faults_of (drop (i + 1) codes))
  unfolding faults_of
  ahead within = at_drop_more faults_of codes i 0 within

  pub read_more : i < length codes → (f : Fault) → fault_of (get_or codes i 0) ≡ Some f → Read codes (i + 1) (faults ++ (f ∷ []))
  read_more within f e =
      before
      ∙ ap (option_map (λ fs. faults ++ fs)) (ahead within ∙ rw e)
      ∙ mapped_after faults f (faults_of (drop (i + 1) codes))

  pub read_refused : i < length codes → fault_of (get_or codes i 0) ≡ None → None ≡ script_of codes
  read_refused within e =
      let next : faults_of (drop i codes) ≡ None = ahead within ∙ ap (λ o. joined o (faults_of (drop (i + 1) codes))) e in
      let none : faults_of codes ≡ None = before ∙ ap (option_map (λ fs. faults ++ fs)) next in
      rw none (grind (arith, nat_tests))

  pub read_all : length codes ≤ i → length codes ≤ 32 → Some faults ≡ script_of codes
  unfolding faults_of
  read_all end few =
      let next : faults_of (drop i codes) ≡ Some [] = at_drop_all faults_of codes i end in
      let all : faults_of codes ≡ Some faults = before ∙ ap (option_map (λ fs. faults ++ fs)) next ∙ ap Some (append-nil faults) in
      let fits : leb (length codes) 32 ≡ true = grind (arith, nat_tests) in
      sym all ∙ sym (rw fits)
