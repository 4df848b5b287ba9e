-- Laws of the answers of section.
pub mod SectionAnswers
