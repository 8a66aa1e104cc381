-- Levels that stand for a flat state still do once a segment is made or goes. States docs/promises.md, "Stands for".
use Rattle.std.proofs.Common.{◌≡◌, ℕ, ◌<◌, ◌≤◌, List, length, Some, None, sym, subst, ap, ◌∙◌, inl, inr, arith}
use Rattle.std.proofs.lemmas.List.{get_or-replicate, length-replicate}
use Rattle.psos_limits.specs.declared.TheConstants.{MOST_WORDS}
use Rattle.psos_caps.specs.declared.rights.Rights.{Rights}
use Rattle.psos_table.specs.Table.{Table, at, put, kept}
use Rattle.psos_table.proofs.Tables.{at-put_here, at-put_apart, at-without_apart, row-without}
use Rattle.psos_words.specs.declared.word.Word.{Word}
use Rattle.psos_words.specs.declared.word.Word.TheVariants.{Data}
use Rattle.psos_words.specs.Words.{zeros, word_at}
use Rattle.psos_calls.specs.declared.seg_row.SegRow.{SegRow}
use Rattle.psos_calls.specs.Language.Script.{Script}
use Rattle.psos_calls.specs.Levels.Level7.{first_free}
use Rattle.psos_calls.specs.Language.Views.{is_not_over}
use Rattle.psos_model.specs.Flat.{Flat, Segment}
use Rattle.psos_model.specs.Flat.Changes.{changed, new_segment}
use Rattle.psos_model.specs.declared.change.Change.TheVariants.{MakeSegment, DropSegment}
use Rattle.psos_model.specs.Replay.{System}
use Rattle.psos_model.specs.Sound.{IsSound}
use Rattle.psos_model.specs.Replay.StandsFor.{StandsFor, HoldsEntries, stored}
use Rattle.psos_agree.specs.Changes.{made_segment, gone_segment}
use Rattle.psos_agree.proofs.Views.{IsSeen}
use Rattle.psos_agree.proofs.SegmentWords.{segment_seen}
use Rattle.psos_agree.proofs.SegmentSlots.{IsSlotted, IsLiveIn, row_of_put, first_is_free, made_slotted, made_live_here, made_live_still, made_words_here, made_words_still, gone_slotted, gone_live_still, gone_words_still}

-- the slots of levels that stand
pub slotted : {y : System} {f : Flat} → StandsFor y f → IsSlotted y.levels.segs.segments y.levels.pages
slotted h = record { apart = h.apart; taken = h.taken; used = h.used; slots = h.slots }

-- ---- a segment is made

-- no word of a new segment is anything but data 0
zeros_alike : (len i : ℕ) → len ≤ MOST_WORDS → i < len → word_at (zeros MOST_WORDS) i ≡ word_at (zeros len) i
zeros_alike len i few h =
    let none : Word = Data 0 in
    get_or-replicate MOST_WORDS i none none (omega (arith, few, h)) ∙ sym (get_or-replicate len i none none h)

-- a segment of data 0 is made, on an identifier that is new at level 8, in a slot that is free
pub stands_made : {y : System} {f : Flat} → StandsFor y f → (u len : ℕ) (guard : Rights) → at y.levels.segs.segments u ≡ None → first_free y.levels.pages < length y.levels.pages → len ≤ MOST_WORDS
    → StandsFor (record y { levels = made_segment y u len guard }) (changed f (MakeSegment u len guard))
stands_made {y = y} {f = f} h u len guard new room few =
    let s = y.levels.segs in
    let pages = y.levels.pages in
    let slot = first_free pages in
    let free = first_is_free pages in
    let k = slotted h in
    let now = made_slotted s pages k u slot len guard new free room in
    let fresh : Segment = new_segment len guard in
    let segs : Table SegRow = put s.segments u (record { slot = slot; len = len; guard = guard }) in
    let words : ℕ → List Word = λ v. stored (record y { levels = made_segment y u len guard }) v in
    let long : length (zeros len) ≡ len = length-replicate len (Data 0) in
    record {
      next = h.next;
      codes = h.codes;
      boxes = h.boxes;
      life = h.life;
      types = h.types;
      windows = h.windows;
      users = h.users;
      dirs = h.dirs;
      objects = h.objects;
      segments = λ v r is. elim (row_of_put f.segments u fresh v r is) [
        | inl a ↦
            let here : IsLiveIn segs u (length (zeros len)) guard.0 = subst (λ (n : ℕ). IsLiveIn segs u n guard.0) (sym long) (made_live_here s pages k u slot len guard new free room) in
            let at_v : IsLiveIn segs v (length (zeros len)) guard.0 = subst (λ (w : ℕ). IsLiveIn segs w (length (zeros len)) guard.0) (sym a.0) here in
            subst (λ (x : Segment). IsLiveIn segs v (length x.words) x.guard.0) (sym a.1) at_v
        | inr a ↦ made_live_still s pages k u slot len guard new free room v (length r.words) r.guard.0 (h.segments v r a.1)
      ];
      reps = λ v d is. made_live_still s pages k u slot len guard new free room d.rep MOST_WORDS d.guard.0 (h.reps v d is);
      no_other = λ v r is. elim (row_of_put s.segments u _ v r is) [
        | inl a ↦ inl (fresh, ap (at (put f.segments u fresh)) a.0 ∙ at-put_here f.segments u fresh)
        | inr a ↦ elim (h.no_other v r a.1) [
          | inl flat ↦ inl (flat.0, at-put_apart f.segments u fresh v a.0 ∙ flat.1)
          | inr rep ↦ inr rep
        ]
      ];
      apart = now.apart;
      taken = now.taken;
      used = now.used;
      slots = now.slots;
      words = λ v r is i below. elim (row_of_put f.segments u fresh v r is) [
        | inl a ↦
            let small : i < len = omega (arith, below, ap (λ (x : Segment). length x.words) a.1, long) in
            ap (λ (w : ℕ). word_at (words w) i) a.0
            ∙ (ap (λ (ws : List Word). word_at ws i) (made_words_here s pages k u slot len guard new free room)
            ∙ (zeros_alike len i few small ∙ ap (λ (x : Segment). word_at x.words i) (sym a.1)))
        | inr a ↦
            ap (λ (ws : List Word). word_at ws i) (made_words_still s pages k u slot len guard new free room v (length r.words) r.guard.0 (h.segments v r a.1)) ∙ h.words v r a.1 i below
      ];
      entries = λ v d is. subst (λ (ws : List Word). HoldsEntries ws d) (sym (made_words_still s pages k u slot len guard new free room d.rep MOST_WORDS d.guard.0 (h.reps v d is))) (h.entries v d is);
    }

-- ---- a segment goes

-- a live segment that represents no directory goes, and the windows over it
pub stands_gone : {s : Script} {y : System} {f : Flat} → StandsFor y f → IsSound s f → (u : ℕ) (t : Segment) → at f.segments u ≡ Some t
    → StandsFor (record y { levels = gone_segment y u }) (changed f (DropSegment u))
stands_gone {s = s} {y = y} {f = f} h sound u t live =
    let segs = y.levels.segs in
    let pages = y.levels.pages in
    let k = slotted h in
    let old = h.segments u t live in
    let seen : IsSeen f u = segment_seen s f u t sound live in
    let now = gone_slotted segs pages k u old.0 old.1 in
    record {
      next = h.next;
      codes = h.codes;
      boxes = h.boxes;
      life = h.life;
      types = h.types;
      windows = ap (kept (is_not_over u)) h.windows;
      users = h.users;
      dirs = h.dirs;
      objects = h.objects;
      segments = λ v r is.
          let was = row-without f.segments u v r is in
          gone_live_still segs pages k u old.0 old.1 v (length r.words) r.guard.0 was.1 (h.segments v r was.0);
      reps = λ v d is. gone_live_still segs pages k u old.0 old.1 d.rep MOST_WORDS d.guard.0 (λ e. seen v d is (sym e)) (h.reps v d is);
      no_other = λ v r is.
          let was = row-without segs.segments u v r is in
          elim (h.no_other v r was.0) [
            | inl flat ↦ inl (flat.0, at-without_apart f.segments u v was.1 ∙ flat.1)
            | inr rep ↦ inr rep
          ];
      apart = now.apart;
      taken = now.taken;
      used = now.used;
      slots = now.slots;
      words = λ v r is i below.
          let was = row-without f.segments u v r is in
          ap (λ (ws : List Word). word_at ws i) (gone_words_still segs pages k u old.0 old.1 v (length r.words) r.guard.0 was.1 (h.segments v r was.0)) ∙ h.words v r was.0 i below;
      entries = λ v d is. subst (λ (ws : List Word). HoldsEntries ws d) (sym (gone_words_still segs pages k u old.0 old.1 d.rep MOST_WORDS d.guard.0 (λ e. seen v d is (sym e)) (h.reps v d is))) (h.entries v d is);
    }
