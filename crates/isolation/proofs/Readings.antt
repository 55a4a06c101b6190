-- A company is answered from its part by the desk's reading.
use Rattle.std.proofs.Common.{◌≡◌, ◌∙◌, refl, sym, ap, subst, Option, Some, None, option_and_then, Ok, Err}
use Rattle.desk_history.specs.declared.call.Call.{Call}
use Rattle.desk_history.specs.declared.call.Call.TheVariants as calls
use Rattle.desk_history.specs.Calls.{IsMessageOf}
use Rattle.desk_history.specs.Message as messages
use Rattle.desk_history.specs.Message.{Message}
use Rattle.bank_days.specs.HolidayList.{holidays_in}
use Rattle.http_message.specs.Message.{asked}
use Rattle.http_history.specs.Addressee.{Addressee, to_nobody, to_company, to_operator, addressee_of}
use Rattle.http_history.specs.Laws.{OneMeaning}
use Rattle.http_history.specs.Verdict.{Verdict, operator_call, Means}
use Rattle.isolation.specs.World.{Command, TakeFile}
use Rattle.isolation.specs.Calls.{command_of}
use Rattle.isolation.specs.Heard.{IsCommandOf, IsCommandTo, IsDesks}
use Rattle.isolation.proofs.Heard.{command_to, reading}

called : (call : Call) (means : Message) (m : Command) → IsMessageOf call means → command_of means ≡ Some m → IsCommandOf (Ok call) m
called (calls.SetDay text) means m is some = ap command_of (sym is) ∙ some
called (calls.SetHolidays bytes) means m is some = ap command_of (sym is) ∙ some
called (calls.PutCompany d) means m is some = ap command_of (sym is) ∙ some
called (calls.PutLimits d) means m is some = ap command_of (sym is) ∙ some
called calls.Cut means m is some = let same = ap command_of (sym is) ∙ some in cc
called (calls.TakeFile bytes) (messages.TakeFile (Ok f)) m is some =
    let same : TakeFile f ≡ m = cc in subst (IsCommandOf (Ok (calls.TakeFile bytes))) same is
called (calls.TakeFile bytes) (messages.TakeFile (Err fault)) m is some = cc
called (calls.TakeFile bytes) means m is some = absurd is
called call means m is some = let no = ap command_of (sym is) ∙ some in cc

only : (verdict : Verdict) (means : Option Message) (m : Command) → Means verdict means → option_and_then command_of means ≡ Some m → IsCommandOf verdict m
only (Err fault) means m is some = let no = ap (option_and_then command_of) (sym is) ∙ some in cc
only (Ok call) None m is some = absurd is
only (Ok call) (Some means) m is some = called call means m is some

module _ (one : OneMeaning) where
  by : (verdict : Verdict) (means meant : Option Message) → Means verdict means → Means verdict meant → option_and_then command_of means ≡ option_and_then command_of meant
  by verdict means meant is was = ap (option_and_then command_of) (one.only verdict means meant is was)

  every : (verdict : Verdict) (means : Option Message) (m : Command) → Means verdict means → IsCommandOf verdict m → option_and_then command_of means ≡ Some m
  every (Ok (calls.SetDay text)) means m read is = by (Ok (calls.SetDay text)) means (Some (messages.SetDay text)) read refl ∙ is
  every (Ok (calls.SetHolidays bytes)) means m read is = by (Ok (calls.SetHolidays bytes)) means (Some (messages.SetHolidays (holidays_in bytes))) read refl ∙ is
  every (Ok (calls.PutCompany d)) means m read is = by (Ok (calls.PutCompany d)) means (Some (messages.PutCompany d)) read refl ∙ is
  every (Ok (calls.PutLimits d)) means m read is = by (Ok (calls.PutLimits d)) means (Some (messages.PutLimits d)) read refl ∙ is
  every (Ok calls.Cut) means m read is = by (Ok calls.Cut) means (Some messages.Cut) read refl ∙ ap Some (sym is)
  every (Ok (calls.TakeFile bytes)) means (TakeFile f) read is = by (Ok (calls.TakeFile bytes)) means (Some (messages.TakeFile (Ok f))) read is
  every verdict means m read is = absurd is

  only_to : (a : Addressee) (m : Command) → command_to one a ≡ Some m → IsCommandTo a m
  only_to (to_nobody fault) m some = cc
  only_to (to_company route c r) m some = cc
  only_to (to_operator route r) m some = let (means, is) = one.some (operator_call route r) in only (operator_call route r) means m is some

  every_to : (a : Addressee) (m : Command) → IsCommandTo a m → command_to one a ≡ Some m
  every_to (to_operator route r) m is = let (means, read) = one.some (operator_call route r) in every (operator_call route r) means m read is
  every_to a m is = absurd is

  pub is_desks : IsDesks (reading one)
  is_desks = record {
    request = λ r. refl;
    every = λ r. every_to (addressee_of (asked r));
    only = λ r. only_to (addressee_of (asked r));
    due = λ part. refl;
  }
