-- The types of nc_base and its words, from where they stand.
pub use Rattle.nc_base.proofs.BitLaws.{bit_steps_more}
pub use Rattle.nc_base.proofs.RunLaws.{steps_more}
pub use Rattle.nc_base.specs.BitForms.{bit_steps, bits_of_run, bits_of_runs}
pub use Rattle.nc_base.specs.NumberForms.{numbers_in, numbers_of_run, numbers_of_runs, steps}
pub use Rattle.nc_base.specs.Values.{count_of}
pub use Rattle.nc_base.specs.declared.answer.Answer.{Answer}
pub use Rattle.nc_base.specs.declared.answer.CallErr.{CallErr}
pub use Rattle.nc_base.specs.declared.answer.Code.{Code}
pub use Rattle.nc_base.specs.declared.answer.Code.TheVariants.{Ok}
pub use Rattle.nc_base.specs.declared.answer.Item.{Item}
pub use Rattle.nc_base.specs.declared.answer.Pair.{Pair}
pub use Rattle.nc_base.specs.declared.bits.BitRun.{BitRun}
pub use Rattle.nc_base.specs.declared.errors.HeaderErr.{HeaderErr}
pub use Rattle.nc_base.specs.declared.errors.HeaderErr.TheVariants.{Truncated}
pub use Rattle.nc_base.specs.declared.errors.LayoutErr.{LayoutErr}
pub use Rattle.nc_base.specs.declared.errors.RedefErr.{RedefErr}
pub use Rattle.nc_base.specs.declared.errors.ScriptErr.{ScriptErr}
pub use Rattle.nc_base.specs.declared.errors.ScriptKind.{ScriptKind}
pub use Rattle.nc_base.specs.declared.header.Attr.{Attr}
pub use Rattle.nc_base.specs.declared.header.Dim.{Dim}
pub use Rattle.nc_base.specs.declared.header.Header.{Header}
pub use Rattle.nc_base.specs.declared.header.NcType.{NcType}
pub use Rattle.nc_base.specs.declared.header.NcType.TheVariants.{Byte, Char, Double, Float, Int, Int64, Short, UByte, UInt, UInt64, UShort}
pub use Rattle.nc_base.specs.declared.header.Var.{Var}
pub use Rattle.nc_base.specs.declared.numbers.NumberRun.{NumberRun}
pub use Rattle.nc_base.specs.declared.plan.Batch.{Batch}
pub use Rattle.nc_base.specs.declared.plan.Extent.{Extent}
pub use Rattle.nc_base.specs.declared.plan.Job.{Job}
pub use Rattle.nc_base.specs.declared.plan.Owned.{Owned}
pub use Rattle.nc_base.specs.declared.plan.Post.{Post}
pub use Rattle.nc_base.specs.declared.request.Call.{Call}
pub use Rattle.nc_base.specs.declared.request.Choice.{Choice}
pub use Rattle.nc_base.specs.declared.request.Choice.TheVariants.{Every, Listed}
pub use Rattle.nc_base.specs.declared.request.Direction.{Direction}
pub use Rattle.nc_base.specs.declared.request.Direction.TheVariants.{Get, Put}
pub use Rattle.nc_base.specs.declared.request.Form.{Form}
pub use Rattle.nc_base.specs.declared.request.Form.TheVariants.{Varn}
pub use Rattle.nc_base.specs.declared.request.Given.{Given}
pub use Rattle.nc_base.specs.declared.request.Part.{Part}
pub use Rattle.nc_base.specs.declared.request.PostKind.{PostKind}
pub use Rattle.nc_base.specs.declared.request.PostKind.TheVariants.{Bput, Iget, Iput}
pub use Rattle.nc_base.specs.declared.request.Region.{Region}
pub use Rattle.nc_base.specs.declared.request.Value.{Value}
pub use Rattle.nc_base.specs.declared.request.Values.{Values}
pub use Rattle.nc_base.specs.declared.request.Values.TheVariants.{Bits, Numbers, Text}
pub use Rattle.nc_base.specs.declared.run.RankEnd.{RankEnd}
pub use Rattle.nc_base.specs.declared.run.RankStop.{RankStop}
pub use Rattle.nc_base.specs.declared.run.RankStop.TheVariants.{Done, Misfit}
pub use Rattle.nc_base.specs.declared.run.RunEnd.{RunEnd}
pub use Rattle.nc_base.specs.declared.run.ServeEnd.{ServeEnd}
pub use Rattle.nc_base.specs.declared.script.Align.{Align}
pub use Rattle.nc_base.specs.declared.script.Extra.{Extra}
pub use Rattle.nc_base.specs.declared.script.Extra.TheVariants.{Att}
pub use Rattle.nc_base.specs.declared.script.Hints.{Hints}
pub use Rattle.nc_base.specs.declared.script.OverlapRule.{OverlapRule}
pub use Rattle.nc_base.specs.declared.script.OverlapRule.TheVariants.{Refuse, Serial}
pub use Rattle.nc_base.specs.declared.script.Script.{Script}
pub use Rattle.nc_base.specs.declared.step.DiskCall.{DiskCall}
pub use Rattle.nc_base.specs.declared.step.DiskCall.TheVariants.{Grow, Load, Store}
pub use Rattle.nc_base.specs.declared.step.Mark.{Mark}
pub use Rattle.nc_base.specs.declared.step.Mark.TheVariants.{Meet, Solo}
pub use Rattle.nc_base.specs.declared.step.MeetKind.{MeetKind}
pub use Rattle.nc_base.specs.declared.step.Offer.{Offer}
pub use Rattle.nc_base.specs.declared.step.OfferKind.{OfferKind}
pub use Rattle.nc_base.specs.declared.step.OwnerItem.{OwnerItem}
pub use Rattle.nc_base.specs.declared.step.OwnerItem.TheVariants.{Stop}
pub use Rattle.nc_base.specs.declared.step.RankItem.{RankItem}
pub use Rattle.nc_base.specs.declared.step.Reply.{Reply}
pub use Rattle.nc_base.specs.declared.step.StepErr.{StepErr}
pub use Rattle.nc_base.specs.declared.step.StepErr.TheVariants.{Disk, Memory}
pub use Rattle.nc_base.specs.declared.step.Want.{Want}
pub use Rattle.nc_base.specs.declared.step.Want.TheVariants.{Answered}
