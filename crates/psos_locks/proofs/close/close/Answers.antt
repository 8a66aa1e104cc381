use Rattle.std.proofs.Common.{◌≡◌, ◌∙◌, ◌++◌, ◌∷◌, [], List, length, Option, refl, true, sym, ap, subst, ℕ, arith}
use mathlib.Core.List.{IsPrefix}
use Rattle.psos_calls.specs.declared.entry.Entry.{Entry}
use Rattle.psos_calls.specs.Language.Script.{Script}
use Rattle.psos_calls.specs.Language.User.{User, next_request, after}
use Rattle.psos_calls.specs.Plan.Requests.{plan_of}
use Rattle.psos_calls.specs.Plan.Trace.{followed}
use Rattle.psos_core.proofs.EventRun.{answered_fits, within_fits}
use Rattle.psos_histories.specs.Closes.{entry_for, bits_for}
use Rattle.psos_histories.specs.Grips.{HaveMet}
use Rattle.psos_journal.specs.Views.{JournalState, Known, Side}
use Rattle.psos_locks.specs.Grips.{grips_of, slots_of}
use Rattle.psos_locks.specs.Users.{OwnView, past_in, has_more, IsAtWork, IsUser}
use Rattle.psos_locks.proofs.Closing.{Found, may_close, put_same, entry_same, closed_so}
use Rattle.psos_locks.proofs.close.close.Goals as goal

pub place-n-requires-clause-answered : goal.place-n-requires-clause-answered
place-n-requires-clause-answered g c =
    let s = g.T.Run.script in
    let o : OwnView = record { own = c.own.inside.private; side = c.own.inside.member; phase = c.own.inside.phase; receipts = c.own.inside.receipts.items; trace = c.own.inside.trace } in
    let seen : c.args.own.now ≡ o = sym c.own.view_is in
    let asks = ap (λ (v : OwnView). next_request s v.own) (sym seen) ∙ c.requires.asks in
    let left : has_more s o ≡ true = ap (has_more s) (sym seen) ∙ c.requires.left in
    let work : IsAtWork s o c.args.request.now (grips_of c.args.hands.now) = subst (λ (v : OwnView). IsAtWork s v c.args.request.now (grips_of c.args.hands.now)) seen c.requires.work in
    let over = ap (λ (v : OwnView). followed (plan_of v.own c.args.request.now) v.trace) (sym seen) ∙ c.requires.over in
    let j : JournalState Entry = c.args.book.now in
    let met = subst (λ (b : JournalState Entry). HaveMet b.entries (grips_of c.args.hands.now)) (c.agree.ensures.same ∙ c.know.ensures.same.0) c.meet.ensures.met in
    let first = λ (v : ℕ).
    subst (λ (b : JournalState Entry). IsPrefix (past_in o.receipts v) b.entries) c.know.ensures.same.0 (subst (λ (rs : List (Option (Known Entry))). IsPrefix (past_in rs v) c.know.new.self.entries) c.deref.ensures.value (c.agree.ensures.first v)) in
    let found : Found s o (slots_of c.args.hands.now) j = record {
      recorded = c.know.ensures.run;
      room_is = c.know.ensures.limits.0;
      members_are = c.know.ensures.limits.1;
      knows = c.know.ensures.knows;
      met = met;
      first = first;
    } in
    let m = may_close s c.requires.well_formed o c.own.invariant c.args.request.now (slots_of c.args.hands.now) work asks c.args.closing.reply c.args.closing.effect over left j found in
    answered_fits o.own c.args.closing.effect m.settle

pub place-n-requires-clause-within : goal.place-n-requires-clause-within
place-n-requires-clause-within g c =
    let s = g.T.Run.script in
    let o : OwnView = record { own = c.own.inside.private; side = c.own.inside.member; phase = c.own.inside.phase; receipts = c.own.inside.receipts.items; trace = c.own.inside.trace } in
    let seen : c.args.own.now ≡ o = sym c.own.view_is in
    let asks = ap (λ (v : OwnView). next_request s v.own) (sym seen) ∙ c.requires.asks in
    let left : has_more s o ≡ true = ap (has_more s) (sym seen) ∙ c.requires.left in
    let work : IsAtWork s o c.args.request.now (grips_of c.args.hands.now) = subst (λ (v : OwnView). IsAtWork s v c.args.request.now (grips_of c.args.hands.now)) seen c.requires.work in
    let over = ap (λ (v : OwnView). followed (plan_of v.own c.args.request.now) v.trace) (sym seen) ∙ c.requires.over in
    let j : JournalState Entry = c.args.book.now in
    let met = subst (λ (b : JournalState Entry). HaveMet b.entries (grips_of c.args.hands.now)) (c.agree.ensures.same ∙ c.know.ensures.same.0) c.meet.ensures.met in
    let first = λ (v : ℕ).
    subst (λ (b : JournalState Entry). IsPrefix (past_in o.receipts v) b.entries) c.know.ensures.same.0 (subst (λ (rs : List (Option (Known Entry))). IsPrefix (past_in rs v) c.know.new.self.entries) c.deref.ensures.value (c.agree.ensures.first v)) in
    let found : Found s o (slots_of c.args.hands.now) j = record {
      recorded = c.know.ensures.run;
      room_is = c.know.ensures.limits.0;
      members_are = c.know.ensures.limits.1;
      knows = c.know.ensures.knows;
      met = met;
      first = first;
    } in
    let m = may_close s c.requires.well_formed o c.own.invariant c.args.request.now (slots_of c.args.hands.now) work asks c.args.closing.reply c.args.closing.effect over left j found in
    within_fits o.own c.args.closing.effect m.settle

pub names-names-requires-clause-user : goal.names-names-requires-clause-user
names-names-requires-clause-user g c =
    let s = g.T.Run.script in
    let o : OwnView = record { own = c.own.inside.private; side = c.own.inside.member; phase = c.own.inside.phase; receipts = c.own.inside.receipts.items; trace = c.own.inside.trace } in
    let seen : c.args.own.now ≡ o = sym c.own.view_is in
    let asks = ap (λ (v : OwnView). next_request s v.own) (sym seen) ∙ c.requires.asks in
    let left : has_more s o ≡ true = ap (has_more s) (sym seen) ∙ c.requires.left in
    let work : IsAtWork s o c.args.request.now (grips_of c.args.hands.now) = subst (λ (v : OwnView). IsAtWork s v c.args.request.now (grips_of c.args.hands.now)) seen c.requires.work in
    let over = ap (λ (v : OwnView). followed (plan_of v.own c.args.request.now) v.trace) (sym seen) ∙ c.requires.over in
    let j : JournalState Entry = c.args.book.now in
    let met = subst (λ (b : JournalState Entry). HaveMet b.entries (grips_of c.args.hands.now)) (c.agree.ensures.same ∙ c.know.ensures.same.0) c.meet.ensures.met in
    let first = λ (v : ℕ).
    subst (λ (b : JournalState Entry). IsPrefix (past_in o.receipts v) b.entries) c.know.ensures.same.0 (subst (λ (rs : List (Option (Known Entry))). IsPrefix (past_in rs v) c.know.new.self.entries) c.deref.ensures.value (c.agree.ensures.first v)) in
    let found : Found s o (slots_of c.args.hands.now) j = record {
      recorded = c.know.ensures.run;
      room_is = c.know.ensures.limits.0;
      members_are = c.know.ensures.limits.1;
      knows = c.know.ensures.knows;
      met = met;
      first = first;
    } in
    let m = may_close s c.requires.well_formed o c.own.invariant c.args.request.now (slots_of c.args.hands.now) work asks c.args.closing.reply c.args.closing.effect over left j found in
    omega (arith, m.user, c.number-user.ensures, ap (λ (v : Side Entry). v.number) c.know.ensures.same.1)

pub close-requires : goal.close-requires
close-requires g c =
    let s = g.T.Run.script in
    let o : OwnView = record { own = c.own.inside.private; side = c.own.inside.member; phase = c.own.inside.phase; receipts = c.own.inside.receipts.items; trace = c.own.inside.trace } in
    let seen : c.args.own.now ≡ o = sym c.own.view_is in
    let asks = ap (λ (v : OwnView). next_request s v.own) (sym seen) ∙ c.requires.asks in
    let left : has_more s o ≡ true = ap (has_more s) (sym seen) ∙ c.requires.left in
    let work : IsAtWork s o c.args.request.now (grips_of c.args.hands.now) = subst (λ (v : OwnView). IsAtWork s v c.args.request.now (grips_of c.args.hands.now)) seen c.requires.work in
    let over = ap (λ (v : OwnView). followed (plan_of v.own c.args.request.now) v.trace) (sym seen) ∙ c.requires.over in
    let j : JournalState Entry = c.args.book.now in
    let met = subst (λ (b : JournalState Entry). HaveMet b.entries (grips_of c.args.hands.now)) (c.agree.ensures.same ∙ c.know.ensures.same.0) c.meet.ensures.met in
    let first = λ (v : ℕ).
    subst (λ (b : JournalState Entry). IsPrefix (past_in o.receipts v) b.entries) c.know.ensures.same.0 (subst (λ (rs : List (Option (Known Entry))). IsPrefix (past_in rs v) c.know.new.self.entries) c.deref.ensures.value (c.agree.ensures.first v)) in
    let found : Found s o (slots_of c.args.hands.now) j = record {
      recorded = c.know.ensures.run;
      room_is = c.know.ensures.limits.0;
      members_are = c.know.ensures.limits.1;
      knows = c.know.ensures.knows;
      met = met;
      first = first;
    } in
    let m = may_close s c.requires.well_formed o c.own.invariant c.args.request.now (slots_of c.args.hands.now) work asks c.args.closing.reply c.args.closing.effect over left j found in
    let names = bits_for o.side.number (grips_of c.args.hands.now) in
    let number = c.number-user.ensures ∙ ap (λ (v : Side Entry). v.number) c.know.ensures.same.1 in
    let entry = entry_for o.side.number o.own o.trace c.args.closing.reply in
    let is_entry = entry_same o.side.number c.number-user.result o.own o.trace c.args.closing.reply c.place-n.result c.in-Ok.steps number c.place-n.ensures c.in-Ok.ensures in
    let is_names = c.names-names.ensures ∙ ap (λ (u : ℕ). bits_for u (grips_of c.meet.new.self)) number ∙ ap (λ h. bits_for o.side.number (grips_of h)) c.meet.ensures.same in
    let is_book = c.meet.ensures.book ∙ c.agree.ensures.same ∙ c.know.ensures.same.0 in
    record { closes = put_same s j c.meet.new.book o.side.number c.know.new.member.number entry _ names c.names-names.result (slots_of c.args.hands.now) (slots_of c.meet.new.self) is_book (ap (λ (v : Side Entry). v.number) c.know.ensures.same.1) is_entry is_names (ap slots_of c.meet.ensures.same) m.put }

pub settle-requires : goal.settle-requires
settle-requires g c =
    let s = g.T.Run.script in
    let o : OwnView = record { own = c.own.inside.private; side = c.own.inside.member; phase = c.own.inside.phase; receipts = c.own.inside.receipts.items; trace = c.own.inside.trace } in
    let seen : c.args.own.now ≡ o = sym c.own.view_is in
    let asks = ap (λ (v : OwnView). next_request s v.own) (sym seen) ∙ c.requires.asks in
    let left : has_more s o ≡ true = ap (has_more s) (sym seen) ∙ c.requires.left in
    let work : IsAtWork s o c.args.request.now (grips_of c.args.hands.now) = subst (λ (v : OwnView). IsAtWork s v c.args.request.now (grips_of c.args.hands.now)) seen c.requires.work in
    let over = ap (λ (v : OwnView). followed (plan_of v.own c.args.request.now) v.trace) (sym seen) ∙ c.requires.over in
    let j : JournalState Entry = c.args.book.now in
    let met = subst (λ (b : JournalState Entry). HaveMet b.entries (grips_of c.args.hands.now)) (c.agree.ensures.same ∙ c.know.ensures.same.0) c.meet.ensures.met in
    let first = λ (v : ℕ).
    subst (λ (b : JournalState Entry). IsPrefix (past_in o.receipts v) b.entries) c.know.ensures.same.0 (subst (λ (rs : List (Option (Known Entry))). IsPrefix (past_in rs v) c.know.new.self.entries) c.deref.ensures.value (c.agree.ensures.first v)) in
    let found : Found s o (slots_of c.args.hands.now) j = record {
      recorded = c.know.ensures.run;
      room_is = c.know.ensures.limits.0;
      members_are = c.know.ensures.limits.1;
      knows = c.know.ensures.knows;
      met = met;
      first = first;
    } in
    let m = may_close s c.requires.well_formed o c.own.invariant c.args.request.now (slots_of c.args.hands.now) work asks c.args.closing.reply c.args.closing.effect over left j found in
    m.settle

pub invariant_of-own-2 : goal.invariant_of-own-2
invariant_of-own-2 g c =
    let s = g.T.Run.script in
    let o : OwnView = record { own = c.own.inside.private; side = c.own.inside.member; phase = c.own.inside.phase; receipts = c.own.inside.receipts.items; trace = c.own.inside.trace } in
    let seen : c.args.own.now ≡ o = sym c.own.view_is in
    let asks = ap (λ (v : OwnView). next_request s v.own) (sym seen) ∙ c.requires.asks in
    let left : has_more s o ≡ true = ap (has_more s) (sym seen) ∙ c.requires.left in
    let work : IsAtWork s o c.args.request.now (grips_of c.args.hands.now) = subst (λ (v : OwnView). IsAtWork s v c.args.request.now (grips_of c.args.hands.now)) seen c.requires.work in
    let over = ap (λ (v : OwnView). followed (plan_of v.own c.args.request.now) v.trace) (sym seen) ∙ c.requires.over in
    let j : JournalState Entry = c.args.book.now in
    let met = subst (λ (b : JournalState Entry). HaveMet b.entries (grips_of c.args.hands.now)) (c.agree.ensures.same ∙ c.know.ensures.same.0) c.meet.ensures.met in
    let first = λ (v : ℕ).
    subst (λ (b : JournalState Entry). IsPrefix (past_in o.receipts v) b.entries) c.know.ensures.same.0 (subst (λ (rs : List (Option (Known Entry))). IsPrefix (past_in rs v) c.know.new.self.entries) c.deref.ensures.value (c.agree.ensures.first v)) in
    let found : Found s o (slots_of c.args.hands.now) j = record {
      recorded = c.know.ensures.run;
      room_is = c.know.ensures.limits.0;
      members_are = c.know.ensures.limits.1;
      knows = c.know.ensures.knows;
      met = met;
      first = first;
    } in
    let m = may_close s c.requires.well_formed o c.own.invariant c.args.request.now (slots_of c.args.hands.now) work asks c.args.closing.reply c.args.closing.effect over left j found in
    let names = bits_for o.side.number (grips_of c.args.hands.now) in
    let number = c.number-user.ensures ∙ ap (λ (v : Side Entry). v.number) c.know.ensures.same.1 in
    let entry = entry_for o.side.number o.own o.trace c.args.closing.reply in
    let is_entry = entry_same o.side.number c.number-user.result o.own o.trace c.args.closing.reply c.place-n.result c.in-Ok.steps number c.place-n.ensures c.in-Ok.ensures in
    let is_names = c.names-names.ensures ∙ ap (λ (u : ℕ). bits_for u (grips_of c.meet.new.self)) number ∙ ap (λ h. bits_for o.side.number (grips_of h)) c.meet.ensures.same in
    let is_book = c.meet.ensures.book ∙ c.agree.ensures.same ∙ c.know.ensures.same.0 in
    let made : Entry = record { user = c.number-user.result; n = c.place-n.result.0; m = c.place-n.result.1; steps = c.in-Ok.steps; reply = c.args.closing.reply } in
    let put = c.in_ok-stamp.ensures.put in
    let log = j.entries ++ (entry, names) ∷ [] in
    let log_is : c.meet.new.book.entries ++ (made, c.names-names.result) ∷ [] ≡ log =
    ap (λ (b : JournalState Entry). b.entries ++ (made, c.names-names.result) ∷ []) is_book ∙ ap (λ (e : Entry). j.entries ++ (e, c.names-names.result) ∷ []) is_entry
    ∙ ap (λ (n : ℕ). j.entries ++ (entry, n) ∷ []) is_names in
    let member_is : c.close.new.member ≡ record o.side { past = log } =
    put.member ∙ ap (λ (v : Side Entry). (let q : Side Entry = record v { past = c.meet.new.book.entries ++ (made, c.names-names.result) ∷ [] } in q)) c.know.ensures.same.1
    ∙ ap (λ l. (let q : Side Entry = record o.side { past = l } in q)) log_is in
    let own_is : c.settle.new.self ≡ after s o.own c.args.closing.effect = c.settle.ensures ∙ ap (λ (q : Script). after q o.own c.args.closing.effect) c.requires.script in
    subst (λ (a : User). IsUser s (record o { own = a; side = c.close.new.member })) (sym own_is)
    (subst (λ (b : Side Entry). IsUser s (record o { own = after s o.own c.args.closing.effect; side = b })) (sym member_is) m.left)

pub returns-clause-closed : goal.returns-clause-closed
returns-clause-closed g c =
    let s = g.T.Run.script in
    let o : OwnView = record { own = c.own.inside.private; side = c.own.inside.member; phase = c.own.inside.phase; receipts = c.own.inside.receipts.items; trace = c.own.inside.trace } in
    let seen : c.args.own.now ≡ o = sym c.own.view_is in
    let asks = ap (λ (v : OwnView). next_request s v.own) (sym seen) ∙ c.requires.asks in
    let left : has_more s o ≡ true = ap (has_more s) (sym seen) ∙ c.requires.left in
    let work : IsAtWork s o c.args.request.now (grips_of c.args.hands.now) = subst (λ (v : OwnView). IsAtWork s v c.args.request.now (grips_of c.args.hands.now)) seen c.requires.work in
    let over = ap (λ (v : OwnView). followed (plan_of v.own c.args.request.now) v.trace) (sym seen) ∙ c.requires.over in
    let j : JournalState Entry = c.args.book.now in
    let met = subst (λ (b : JournalState Entry). HaveMet b.entries (grips_of c.args.hands.now)) (c.agree.ensures.same ∙ c.know.ensures.same.0) c.meet.ensures.met in
    let first = λ (v : ℕ).
    subst (λ (b : JournalState Entry). IsPrefix (past_in o.receipts v) b.entries) c.know.ensures.same.0 (subst (λ (rs : List (Option (Known Entry))). IsPrefix (past_in rs v) c.know.new.self.entries) c.deref.ensures.value (c.agree.ensures.first v)) in
    let found : Found s o (slots_of c.args.hands.now) j = record {
      recorded = c.know.ensures.run;
      room_is = c.know.ensures.limits.0;
      members_are = c.know.ensures.limits.1;
      knows = c.know.ensures.knows;
      met = met;
      first = first;
    } in
    let m = may_close s c.requires.well_formed o c.own.invariant c.args.request.now (slots_of c.args.hands.now) work asks c.args.closing.reply c.args.closing.effect over left j found in
    let names = bits_for o.side.number (grips_of c.args.hands.now) in
    let number = c.number-user.ensures ∙ ap (λ (v : Side Entry). v.number) c.know.ensures.same.1 in
    let entry = entry_for o.side.number o.own o.trace c.args.closing.reply in
    let is_entry = entry_same o.side.number c.number-user.result o.own o.trace c.args.closing.reply c.place-n.result c.in-Ok.steps number c.place-n.ensures c.in-Ok.ensures in
    let is_names = c.names-names.ensures ∙ ap (λ (u : ℕ). bits_for u (grips_of c.meet.new.self)) number ∙ ap (λ h. bits_for o.side.number (grips_of h)) c.meet.ensures.same in
    let is_book = c.meet.ensures.book ∙ c.agree.ensures.same ∙ c.know.ensures.same.0 in
    let made : Entry = record { user = c.number-user.result; n = c.place-n.result.0; m = c.place-n.result.1; steps = c.in-Ok.steps; reply = c.args.closing.reply } in
    let put = c.in_ok-stamp.ensures.put in
    let log = j.entries ++ (entry, names) ∷ [] in
    let log_is : c.meet.new.book.entries ++ (made, c.names-names.result) ∷ [] ≡ log =
    ap (λ (b : JournalState Entry). b.entries ++ (made, c.names-names.result) ∷ []) is_book ∙ ap (λ (e : Entry). j.entries ++ (e, c.names-names.result) ∷ []) is_entry
    ∙ ap (λ (n : ℕ). j.entries ++ (entry, n) ∷ []) is_names in
    let member_is : c.close.new.member ≡ record o.side { past = log } =
    put.member ∙ ap (λ (v : Side Entry). (let q : Side Entry = record v { past = c.meet.new.book.entries ++ (made, c.names-names.result) ∷ [] } in q)) c.know.ensures.same.1
    ∙ ap (λ l. (let q : Side Entry = record o.side { past = l } in q)) log_is in
    let last = put.last ∙ ap (λ (b : JournalState Entry). length b.entries) is_book in
    closed_so s c.args.own.now o (sym seen) (slots_of c.args.hands.now) entry names c.args.closing.effect j m c.in_ok-stamp.stamp last c.close.new.member member_is c.settle.new.self refl
