-- The value of a save is one that the history names.
use Rattle.std.proofs.Common.{◌≡◌, ℕ, Bool, true, false, eqb, List, [], ◌∷◌, ◌++◌, Some, None, Option, sym, refl, ap, ◌∙◌, subst, arith}
use Rattle.history.specs.Deeds.{Deed, History, Kind, nothing, began, stores, commits_save, deletes, looks_first, looks_on, completes, ends, latest, when, begins, saved, erased, same_key, saved_at, commits, looks, value_of}
use Rattle.history.specs.Promises.{Named, here, before}

-- where the latest deed of a kind stands
record Found {A : Type 0} (kind : Kind A) (h : History) (a : A) : Type 0 where
  after : History
  deed_there : Deed
  earlier : History
  split : h ≡ after ++ (deed_there ∷ earlier)
  says : kind deed_there earlier ≡ Some a

found : {A : Type 0} (kind : Kind A) (h : History) (a : A) → latest kind h ≡ Some a → Found kind h a
found kind [] a e = absurd (grind arith)
found {A} kind (d ∷ h) a e = by (kind d h) refl (λ l. found kind h a l) where
  by : (o : Option A) → kind d h ≡ o → (latest kind h ≡ Some a → Found kind h a) → Found kind (d ∷ h) a
  by None is rec =
      let r : Found kind h a = rec (rw is at e) in
      record { after = d ∷ r.after; deed_there = r.deed_there; earlier = r.earlier; split = ap (λ (l : History). d ∷ l) r.split; says = r.says }
  by (Some b) is rec = let same : Some b ≡ Some a = rw is at e in record { after = []; deed_there = d; earlier = h; split = refl; says = is ∙ same }

named_since : (v : List ℕ) (a h : History) → Named v h → Named v (a ++ h)
named_since v [] h n = n
named_since v (d ∷ a) h n = before (named_since v a h n)

when_is : {A : Type 0} (b : Bool) (x y : A) → when b x ≡ Some y → x ≡ y
when_is true x y e = cc e
when_is false x y e = absurd (grind arith)

begins_names : (p : ℕ) (d : Deed) (h : History) (b : ℕ × List ℕ × List ℕ) → begins p d h ≡ Some b → value_of d ≡ Some b.2
begins_names p nothing h b e = absurd (grind arith)
begins_names p (began q c k v) h b e = ap (λ (x : ℕ × List ℕ × List ℕ). Some x.2) (when_is (eqb q p) (c, k, v) b e)
begins_names p (stores q i v) h b e = absurd (grind arith)
begins_names p (commits_save q) h b e = absurd (grind arith)
begins_names p (deletes q c k) h b e = absurd (grind arith)
begins_names p (looks_first q c k) h b e = absurd (grind arith)
begins_names p (looks_on q) h b e = absurd (grind arith)
begins_names p (completes q i v) h b e = absurd (grind arith)
begins_names p (ends q) h b e = absurd (grind arith)

begun_is_named : (p : ℕ) (h : History) (b : ℕ × List ℕ × List ℕ) → latest (begins p) h ≡ Some b → Named b.2 h
begun_is_named p h b e =
    let r = found (begins p) h b e in
    rw r.split (named_since b.2 r.after (r.deed_there ∷ r.earlier) (here (begins_names p r.deed_there r.earlier b r.says)))

saved_at_names : (c : ℕ) (k : List ℕ) (p : ℕ) (h : History) (v : List ℕ) (o : Option (ℕ × List ℕ × List ℕ)) → latest (begins p) h ≡ o → saved_at c k o ≡ Some (saved v) → Named v h
saved_at_names c k p h v None is e = absurd (grind arith)
saved_at_names c k p h v (Some b) is e =
    let same : saved b.2 ≡ saved v = when_is (same_key b.0 b.1 c k) (saved b.2) (saved v) e in
    let w : b.2 ≡ v = cc same in
    subst (λ (u : List ℕ). Named u h) w (begun_is_named p h b is)

commits_names : (c : ℕ) (k : List ℕ) (d : Deed) (h : History) (v : List ℕ) → commits c k d h ≡ Some (saved v) → Named v h
commits_names c k nothing h v e = absurd (grind arith)
commits_names c k (began q c' k' w) h v e = absurd (grind arith)
commits_names c k (stores q i w) h v e = absurd (grind arith)
commits_names c k (commits_save q) h v e = saved_at_names c k q h v (latest (begins q) h) refl e
commits_names c k (deletes q c' k') h v e = let same : erased ≡ saved v = when_is (same_key c' k' c k) erased (saved v) e in absurd (grind arith)
commits_names c k (looks_first q c' k') h v e = absurd (grind arith)
commits_names c k (looks_on q) h v e = absurd (grind arith)
commits_names c k (completes q i w) h v e = absurd (grind arith)
commits_names c k (ends q) h v e = absurd (grind arith)

saved_is_named : (c : ℕ) (k : List ℕ) (h : History) (v : List ℕ) → latest (commits c k) h ≡ Some (saved v) → Named v h
saved_is_named c k h v e =
    let r = found (commits c k) h (saved v) e in
    rw r.split (named_since v r.after (r.deed_there ∷ r.earlier) (before (commits_names c k r.deed_there r.earlier v r.says)))

looks_past : (p : ℕ) (d : Deed) (h l : History) → looks p d h ≡ Some l → h ≡ l
looks_past p nothing h l e = absurd (grind arith)
looks_past p (began q c k v) h l e = absurd (grind arith)
looks_past p (stores q i v) h l e = absurd (grind arith)
looks_past p (commits_save q) h l e = absurd (grind arith)
looks_past p (deletes q c k) h l e = absurd (grind arith)
looks_past p (looks_first q c k) h l e = when_is (eqb q p) h l e
looks_past p (looks_on q) h l e = when_is (eqb q p) h l e
looks_past p (completes q i v) h l e = absurd (grind arith)
looks_past p (ends q) h l e = absurd (grind arith)

-- the save that was the latest when a fetch last looked
pub seen_is_named : (p : ℕ) (h l : History) (c : ℕ) (k v : List ℕ) → latest (looks p) h ≡ Some l → latest (commits c k) l ≡ Some (saved v) → Named v h
seen_is_named p h l c k v looked was =
    let r = found (looks p) h l looked in
    let n : Named v r.earlier = subst (λ (x : History). Named v x) (sym (looks_past p r.deed_there r.earlier l r.says)) (saved_is_named c k l v was) in
    rw r.split (named_since v r.after (r.deed_there ∷ r.earlier) (before n))
