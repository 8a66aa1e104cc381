-- The last call of a trace that asks for a directory, as calls come. States docs/requests.md, "Plans".
use Rattle.std.proofs.Common.{◌≡◌, ◌⊎◌, inl, inr, ℕ, suc, ◌+◌, ◌≤◌, ◌-◌, Bool, true, false, cond, List, [], ◌∷◌, ◌++◌, length, take, drop, refl, sym, ap, ◌∙◌, subst, arith, length-append}
use Rattle.std.proofs.lemmas.List.{take-append-le, drop-append-le}
use Rattle.std.proofs.Math.Seq.{take-append_seam, drop-append_seam}
use Rattle.psos_caps.specs.Capability.{Capability}
use Rattle.psos_calls.specs.declared.right.Right.{Right}
use Rattle.psos_calls.specs.declared.level_call.LevelCall.TheVariants.{DirAt}
use Rattle.psos_calls.specs.declared.step.Step.{Step}
use Rattle.psos_calls.specs.Levels.Calls.{LevelCall}
use Rattle.psos_calls.specs.Plan.Asked.{asks_dir, asked, BeginsWithDir, IsLastDir, IsSinceDir}

-- a call that is not for a directory
pub no-dir : (call : LevelCall) → ((cap : Capability) (right : Right) → call ≡ DirAt cap right → ⊥) → asks_dir call ≡ false
no-dir (DirAt cap right) other = absurd (other cap right refl)
no-dir _ other = refl

-- one more call
asked-more : (b : Bool) (xs : List Step) (s : Step) → asks_dir s.call ≡ b → asked (xs ++ s ∷ []) ≡ cond b (suc (asked xs)) (asked xs)
asked-more true [] s e = ap (λ (b : Bool). cond b 1 0) e
asked-more false [] s e = ap (λ (b : Bool). cond b 1 0) e
asked-more b (x ∷ xs) s e = by b (asks_dir x.call) (asked-more b xs s e)
  where
    by : (b c : Bool) → asked (xs ++ s ∷ []) ≡ cond b (suc (asked xs)) (asked xs)
        → cond c (suc (asked (xs ++ s ∷ []))) (asked (xs ++ s ∷ [])) ≡ cond b (suc (cond c (suc (asked xs)) (asked xs))) (cond c (suc (asked xs)) (asked xs))
    by true true h = ap suc h
    by true false h = h
    by false true h = ap suc h
    by false false h = h

pub asked-few : (xs : List Step) → asked xs ≤ length xs
asked-few [] = omega arith
asked-few (x ∷ xs) = by (asks_dir x.call) (asked-few xs)
  where
    by : (c : Bool) → asked xs ≤ length xs → cond c (suc (asked xs)) (asked xs) ≤ suc (length xs)
    by true h = omega arith
    by false h = omega arith

begins-more : (xs : List Step) (s : Step) → BeginsWithDir xs → BeginsWithDir (xs ++ s ∷ [])
begins-more [] s b = absurd b
begins-more (x ∷ xs) s b = b

-- after a call that asks for no directory
pub last-kept : (count at : ℕ) (xs : List Step) (s : Step) → asks_dir s.call ≡ false → IsLastDir count at xs → IsLastDir count at (xs ++ s ∷ [])
last-kept count at xs s e l = record { within = longer; last = by l.last; all = l.all ∙ sym (asked-more false xs s e) }
  where
    longer : at ≤ length (xs ++ s ∷ [])
    longer = let more = length-append xs (s ∷ []) in let within = l.within in omega arith

    by : ((count ≡ 0) × (at ≡ 0)) ⊎ ((count ≡ suc (asked (take at xs))) × BeginsWithDir (drop at xs))
        → ((count ≡ 0) × (at ≡ 0)) ⊎ ((count ≡ suc (asked (take at (xs ++ s ∷ [])))) × BeginsWithDir (drop at (xs ++ s ∷ [])))
    by (inl none) = inl none
    by (inr some) = inr (
      some.0 ∙ ap (λ (front : List Step). suc (asked front)) (sym (take-append-le at xs (s ∷ []) l.within)),
      subst BeginsWithDir (sym (drop-append-le at xs (s ∷ []) l.within)) (begins-more (drop at xs) s some.1),
    )

-- after one that does
pub last-moved : (count at : ℕ) (xs : List Step) (s : Step) → asks_dir s.call ≡ true → IsLastDir count at xs → IsLastDir (count + 1) (length xs) (xs ++ s ∷ [])
last-moved count at xs s e l = record {
  within = let more = length-append xs (s ∷ []) in omega arith;
  last = inr (
    one ∙ ap suc (l.all ∙ ap asked (sym (take-append_seam xs (s ∷ [])))),
    subst BeginsWithDir (sym (drop-append_seam xs (s ∷ []))) (asks e),
  );
  all = one ∙ ap suc l.all ∙ sym (asked-more true xs s e);
}
  where
    one : count + 1 ≡ suc count
    one = omega arith

    asks : asks_dir s.call ≡ true → BeginsWithDir (s ∷ [])
    asks e = e

-- the steps from it on
pub since-last : (count at : ℕ) (xs : List Step) → IsLastDir count at xs → IsSinceDir xs (count - 1) (drop at xs)
since-last count at xs l = record { at = at; within = l.within; count = counted l.last; is = refl; first = first l.last }
  where
    counted : ((count ≡ 0) × (at ≡ 0)) ⊎ ((count ≡ suc (asked (take at xs))) × BeginsWithDir (drop at xs)) → count - 1 ≡ asked (take at xs)
    counted (inl none) =
        let zero : count - 1 ≡ 0 = (let e = none.0 in omega arith) in
        zero ∙ ap (λ (n : ℕ). asked (take n xs)) (sym none.1)
    counted (inr some) = let e = some.0 in omega arith

    first : ((count ≡ 0) × (at ≡ 0)) ⊎ ((count ≡ suc (asked (take at xs))) × BeginsWithDir (drop at xs)) → (at ≡ 0) ⊎ BeginsWithDir (drop at xs)
    first (inl none) = inl none.1
    first (inr some) = inr some.1
