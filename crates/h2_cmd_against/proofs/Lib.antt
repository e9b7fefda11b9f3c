mod FileLaws
mod ProgramLaws
